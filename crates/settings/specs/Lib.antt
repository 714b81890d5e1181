-- What the contracts of settings cite.
pub mod Limits
pub mod Range
pub mod Fault
pub mod Checked

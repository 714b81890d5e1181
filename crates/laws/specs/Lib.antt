pub mod Entries
pub mod Operations
pub mod Laws

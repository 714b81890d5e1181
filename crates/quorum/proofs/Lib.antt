pub mod From
pub mod Digits
pub mod Sets
pub mod Agreements
pub mod Decisions
mod Searching
pub mod Lowest

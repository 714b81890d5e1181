pub mod Row
pub mod Replica

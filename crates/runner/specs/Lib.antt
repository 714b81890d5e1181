pub mod Drill
pub mod Fault
pub mod Memory
pub mod Rehearse
pub mod Choice

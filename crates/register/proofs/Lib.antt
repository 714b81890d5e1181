pub mod Sends
pub mod Runs

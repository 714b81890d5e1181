pub mod Client
pub mod Hear
pub mod Start

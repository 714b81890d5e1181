pub mod Played
pub mod MarkedRight

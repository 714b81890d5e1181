pub mod Pasts
pub mod Marked

pub mod Rings
pub mod Slotted
pub mod Beside

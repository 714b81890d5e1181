pub mod Sizes
pub mod Ring
pub mod Queue
pub mod Table
pub mod Slots
pub mod Pocket
pub mod Delay

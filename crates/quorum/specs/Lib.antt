pub mod Agree
pub mod Highest
pub mod Decide
pub mod Masks
pub mod Replies
pub mod Slip
pub mod Tally

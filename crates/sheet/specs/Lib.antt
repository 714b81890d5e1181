-- What the contracts of the reader and the listing writer cite.
pub mod FirstFault
pub mod Form
pub mod Kind
pub mod Listing
pub mod Page
pub mod Read
pub mod Fault
pub mod Steps
pub mod Word

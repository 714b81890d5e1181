-- What the contracts of the programs' shared part cite.
pub mod Print
pub mod Sizes

pub mod Asks
pub mod Halves
pub mod Sorts
pub mod Partial
pub mod Merges

pub mod Differences
pub mod Slots

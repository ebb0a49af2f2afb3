pub mod Splits
pub mod InSlots

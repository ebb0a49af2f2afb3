pub mod GroupOrder
pub mod Sorting
pub mod Parts
pub mod Samples
pub mod SetText

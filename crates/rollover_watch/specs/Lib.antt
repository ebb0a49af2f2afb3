pub mod Lines
pub mod Watches
pub mod Counts

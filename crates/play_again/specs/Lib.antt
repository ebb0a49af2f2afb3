pub mod Keeping
pub mod Over

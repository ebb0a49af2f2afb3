pub mod Backward
pub mod Names

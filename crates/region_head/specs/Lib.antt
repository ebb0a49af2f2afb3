pub mod Head
pub mod Closing

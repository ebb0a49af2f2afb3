pub mod Session
pub mod Bounds
pub mod Acting

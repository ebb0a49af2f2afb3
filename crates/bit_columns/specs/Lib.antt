pub mod Bits
pub mod Number

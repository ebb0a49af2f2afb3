pub mod Numbers
pub mod Bits
pub mod Fours
pub mod Joined
pub mod Reading
pub mod Spare
pub mod Writing

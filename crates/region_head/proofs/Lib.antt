pub mod Heads
pub mod Closing
pub mod Moments

pub mod Causes
pub mod Streams
pub mod Berth
pub mod Moments

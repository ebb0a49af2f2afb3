pub mod Scanning
pub mod Reads
pub mod Seen
pub mod Timed
pub mod Viewed
pub mod Decoded
pub mod Keyed
pub mod Slots

pub mod Bytes
pub mod Records
pub mod Reading
pub mod Pending

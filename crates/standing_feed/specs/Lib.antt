pub mod Answering
pub mod Hearing
pub mod Following
pub mod Sharing

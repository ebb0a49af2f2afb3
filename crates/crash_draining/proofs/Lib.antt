pub mod Planning
pub mod Stepping
pub mod Resting
pub mod Handing
pub mod Copying

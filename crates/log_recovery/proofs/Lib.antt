pub mod Replaying
pub mod Places
pub mod Applying
pub mod Counting
pub mod Reading
pub mod LogAnswers

pub mod Played
pub mod Shortened
pub mod Went

pub mod Stage
pub mod Modes
pub mod Holds
pub mod Steps
pub mod Plays
pub mod Lanes

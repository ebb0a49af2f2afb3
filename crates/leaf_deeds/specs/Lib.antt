pub mod Held
pub mod Steps
pub mod Moves
pub mod Deeds

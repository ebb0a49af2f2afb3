pub mod Tails
pub mod Room

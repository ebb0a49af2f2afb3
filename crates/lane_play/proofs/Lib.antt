pub mod Heard
pub mod Held
pub mod Still
pub mod Playing

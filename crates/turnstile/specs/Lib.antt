pub mod Ids
pub mod Objects
pub mod Seats
pub mod Views
pub mod Rule
pub mod Plays
pub mod Places

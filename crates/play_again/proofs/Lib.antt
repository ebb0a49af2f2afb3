pub mod Listing
pub mod KeepsBase
pub mod Begun
pub mod BaseStays
pub mod Again

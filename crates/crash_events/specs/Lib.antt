pub mod Machine
pub mod Events
pub mod Kept
pub mod Fits
pub mod Laws
pub mod Begins

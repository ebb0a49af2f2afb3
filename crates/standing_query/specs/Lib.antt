pub mod Names
pub mod Parts
pub mod Spread
pub mod States
pub mod Times

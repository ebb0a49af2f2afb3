pub mod Places
pub mod Modes
pub mod Changes
pub mod Leaving
pub mod AtOnce
pub mod Turning
pub mod Opening
pub mod EveryEvent
pub mod Fitting
pub mod Plain
pub mod Runs
pub mod Fresh
pub mod Beginning
pub mod Ready
pub mod Names
pub mod Crashes
mod Samples

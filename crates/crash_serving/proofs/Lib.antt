mod Places
mod Entering
mod Settling
mod Taking
mod Flushing
mod Killing
pub mod Running

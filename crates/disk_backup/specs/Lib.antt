pub mod Logs
pub mod State
pub mod Gates
pub mod Settling
pub mod Came
pub mod Scanning
pub mod SoundLogs

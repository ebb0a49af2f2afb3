pub mod ReadyLogs
pub mod ReadyTables
pub mod Ready
pub mod Watching
pub mod Opening
pub mod Finding
pub mod Running
pub mod Starting

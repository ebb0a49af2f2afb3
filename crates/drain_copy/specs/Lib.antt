pub mod Draining
pub mod Regions
pub mod Planned

pub mod Turns
pub mod Cuts
pub mod Apart
pub mod Once
pub mod Fewest
pub mod Planned

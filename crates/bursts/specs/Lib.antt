pub mod Items
pub mod Needs
pub mod Rolling
pub mod Lanes

pub mod Needed
pub mod Hearing
pub mod Cutting
pub mod Idle
pub mod Lanes
pub mod Working
pub mod Taking
pub mod Items

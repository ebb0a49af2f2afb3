pub mod Fresh
pub mod Leavers

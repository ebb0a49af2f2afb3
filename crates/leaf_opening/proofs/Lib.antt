pub mod Regions
pub mod Strangers
pub mod Places
pub mod Origins
pub mod Starting
pub mod OneAnswer
pub mod Exact

pub mod Soak
pub mod Hosts

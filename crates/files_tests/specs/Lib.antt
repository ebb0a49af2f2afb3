pub mod Laws
pub mod Torn

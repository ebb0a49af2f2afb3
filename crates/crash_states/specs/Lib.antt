pub mod Standing
pub mod Beginning
pub mod Entries
pub mod Laws

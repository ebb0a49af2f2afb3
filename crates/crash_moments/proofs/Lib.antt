pub mod Cuts
pub mod Telling
pub mod Histories
pub mod Bases
pub mod Alike

pub mod Ends
pub mod SetLaws

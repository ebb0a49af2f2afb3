pub mod Count
pub mod Outcome

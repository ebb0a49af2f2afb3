pub mod Source
pub mod Faults
pub mod Outcome

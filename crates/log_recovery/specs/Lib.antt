pub mod Recovery
pub mod Faults
pub mod Applying

pub mod OpenedLeaf
pub mod Faults
pub mod Starts
pub mod Answers

pub mod Values
pub mod Sets
pub mod Names
pub mod Texts

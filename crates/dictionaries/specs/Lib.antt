pub mod Fields
pub mod Dictionary
pub mod Sets

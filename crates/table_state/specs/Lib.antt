pub mod Tables
pub mod Stored

pub mod Seated
pub mod Making
pub mod Owing

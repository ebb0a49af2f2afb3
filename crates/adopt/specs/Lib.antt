pub mod Taken
pub mod Adopting
pub mod Cells
pub mod Finding
pub mod Finishing
pub mod Tables
pub mod Starting

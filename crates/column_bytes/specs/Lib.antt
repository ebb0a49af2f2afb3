pub mod Cells
pub mod Next
pub mod Column
pub mod Held
pub mod Coding

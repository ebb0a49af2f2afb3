pub mod Cut
pub mod InParts
pub mod Counted
pub mod Numbers

pub mod Plans
pub mod Counts
pub mod Record
pub mod Forms
pub mod Laws
pub mod Picked

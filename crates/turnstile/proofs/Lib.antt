pub mod Totals
pub mod Prefixes
pub mod Ids
pub mod Views
pub mod Entering
pub mod Leaving
pub mod Moving
pub mod Calling

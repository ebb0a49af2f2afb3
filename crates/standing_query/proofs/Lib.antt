mod Moving
mod Stood
mod Alike
mod Names
mod Showing
pub mod Enough
mod Ascending
mod Cut
mod Ends
mod Repeated
mod Telling
mod Counted
mod Expired
mod Held
mod Falling
mod Going
mod Feeding

pub mod Calling
pub mod Going
pub mod Seeing

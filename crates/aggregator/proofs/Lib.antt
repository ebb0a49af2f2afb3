pub mod Halves
pub mod Replies
pub mod Sorted
pub mod Dividing

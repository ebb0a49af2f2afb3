pub mod Calls
pub mod Replies
pub mod History
pub mod Laws

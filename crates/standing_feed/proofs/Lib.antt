pub mod Heeding
pub mod Kept
pub mod Noted
pub mod Followed

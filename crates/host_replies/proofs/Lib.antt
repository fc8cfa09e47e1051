pub mod Refreshes
pub mod Replies

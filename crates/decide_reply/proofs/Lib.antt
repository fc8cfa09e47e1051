pub mod Parameters
pub mod Turns
pub mod Replies
pub mod Receipts

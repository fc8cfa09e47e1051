pub mod Follows
pub mod Logs
pub mod Theorem
pub mod Lent
pub mod Told
pub mod Link
pub mod Unread

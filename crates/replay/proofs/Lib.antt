pub mod Circle
pub mod Entries
pub mod Kept
pub mod Search

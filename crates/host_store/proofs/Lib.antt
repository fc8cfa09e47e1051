pub mod Finds
pub mod Counts
pub mod Placing

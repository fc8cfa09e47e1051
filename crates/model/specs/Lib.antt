pub mod Lists
pub mod Bounds
pub mod Words
pub mod Soundness
pub mod Reasons
pub mod Decisions
pub mod Records
pub mod Profile

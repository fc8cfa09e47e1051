pub mod Tests
pub mod Lists
pub mod Reasons
pub mod Decisions
pub mod Meaning
pub mod Options

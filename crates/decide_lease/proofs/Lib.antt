pub mod Checks
pub mod Numbers
pub mod Axes
pub mod Held
pub mod Grants

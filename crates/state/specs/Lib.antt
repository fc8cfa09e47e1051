pub mod Axes
pub mod State
pub mod Stores

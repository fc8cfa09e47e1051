pub mod Looks
pub mod Pushes
pub mod Stores

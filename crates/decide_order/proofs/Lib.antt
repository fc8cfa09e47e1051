pub mod Bits
pub mod Parameters
pub mod Groups
pub mod Shown
pub mod Stored
pub mod Orders
pub mod Originals

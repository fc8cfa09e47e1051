pub mod Copies
pub mod Regions

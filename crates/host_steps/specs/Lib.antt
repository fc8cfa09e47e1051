pub mod Altered
pub mod Onward

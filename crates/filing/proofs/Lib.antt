pub mod Theorem
pub mod Link

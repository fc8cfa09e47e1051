pub mod Accepted
pub mod Fits
pub mod Lent
pub mod Link
pub mod Sentences
pub mod Starting
pub mod Theorem
pub mod Told

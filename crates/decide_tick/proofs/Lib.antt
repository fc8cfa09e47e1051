pub mod Due
pub mod Opens
pub mod Quiet

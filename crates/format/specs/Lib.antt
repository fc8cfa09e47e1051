pub mod Kinds
pub mod Decode
pub mod Encode
pub mod Inputs
pub mod Back

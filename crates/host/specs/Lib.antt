pub mod Accepted
pub mod Claim
pub mod Host

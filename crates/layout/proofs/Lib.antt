pub mod Becomes
pub mod Chains
pub mod Fields
pub mod Listing
pub mod Stored

pub mod Runtimes
pub mod Kept
pub mod Promises
pub mod Stages

pub mod Circles
pub mod KindBits
pub mod Merges
pub mod Uses
pub mod Steps
pub mod Promises

pub mod Orders
pub mod Circles
pub mod Indexes
pub mod Rings

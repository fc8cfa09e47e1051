pub mod Records
pub mod Axes
pub mod Listings

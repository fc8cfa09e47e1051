pub mod Courses
pub mod Leases
pub mod Orders

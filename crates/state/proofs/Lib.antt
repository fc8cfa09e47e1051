pub mod Axes
pub mod Courses
pub mod Tables
pub mod Records
pub mod Follows
pub mod Turns

pub mod Answered
pub mod Rooms
pub mod Zeros

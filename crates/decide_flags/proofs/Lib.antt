pub mod Forbidden
pub mod Senses
pub mod Stops
pub mod Recovery

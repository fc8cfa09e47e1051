pub mod Callings

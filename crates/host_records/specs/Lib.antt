pub mod Claim
pub mod Records
pub mod Standings

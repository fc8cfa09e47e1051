pub mod Card
pub mod Functions
pub mod Wire
pub mod Claim
pub mod Sentences
pub mod Cases

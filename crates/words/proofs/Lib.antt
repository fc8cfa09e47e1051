pub mod Over
pub mod Ends
pub mod Numbers
pub mod SignLaws
pub mod Signs

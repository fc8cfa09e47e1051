pub mod Back
pub mod FieldLaws
pub mod Held
pub mod Inputs
pub mod KindLaws
pub mod WordLaws

pub mod CaseG

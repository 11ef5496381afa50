pub mod Unnamed
pub mod Listed
pub mod Added
pub mod Next
pub mod Contained
pub mod OneOutcome
pub mod Examples

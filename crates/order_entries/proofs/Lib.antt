pub mod Counting
pub mod OneOutcome

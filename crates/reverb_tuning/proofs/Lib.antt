pub mod Tunings
pub mod OneOutcome

pub mod OneOutcome
pub mod Sames

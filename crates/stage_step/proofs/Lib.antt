pub mod Lent
pub mod Levels
pub mod Steps
pub mod OneOutcome

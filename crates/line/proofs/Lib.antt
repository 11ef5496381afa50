pub mod Lent
pub mod Keeps
pub mod OneOutcome

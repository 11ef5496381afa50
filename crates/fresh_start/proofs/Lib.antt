pub mod Cleared
pub mod Starting
pub mod OneOutcome

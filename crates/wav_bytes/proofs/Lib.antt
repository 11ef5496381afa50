pub mod Past
pub mod OneOutcome

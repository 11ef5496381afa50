pub mod TopStages
pub mod OneOutcome

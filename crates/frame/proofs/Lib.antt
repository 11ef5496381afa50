pub mod Panning
pub mod OneOutcome
pub mod Examples

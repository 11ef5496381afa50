pub mod Unrun
pub mod Parts
pub mod OneOutcome

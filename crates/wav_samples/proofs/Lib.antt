pub mod Signed
pub mod Steps
pub mod Blocks
pub mod OneOutcome

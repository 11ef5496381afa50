pub mod InTurn
pub mod Levels
pub mod Sides
pub mod Keeps
pub mod OneOutcome
pub mod FirstLine

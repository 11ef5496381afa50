pub mod Tabled
pub mod OneOutcome

pub mod BlockTaken
pub mod Calls
pub mod Needed
pub mod OneOutcome
pub mod Tabled

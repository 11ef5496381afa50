pub mod Places
pub mod Each
pub mod Entry
pub mod Rule
pub mod AmplitudeRules
pub mod OneOutcome
pub mod Examples

pub mod Examples
pub mod FewLines
pub mod OneOutcome
pub mod LineStarts

pub mod TableHolds
pub mod Runs
pub mod Clear
pub mod Clears
pub mod Shapes
pub mod TopStages
pub mod Examples

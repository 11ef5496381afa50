pub mod Line
pub mod Effects
pub mod Process
pub mod Standing

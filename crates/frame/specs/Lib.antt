pub mod Operations
pub mod Mix
pub mod Panning

pub mod Shape
pub mod Refusals

pub mod Literal
pub mod Clamp
pub mod Finite

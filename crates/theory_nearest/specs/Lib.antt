pub mod Nearest
pub mod Whole
pub mod Ieee754

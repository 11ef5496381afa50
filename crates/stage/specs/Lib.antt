pub mod Holding
pub mod Setup
pub mod Listed
pub mod Added
pub mod Range

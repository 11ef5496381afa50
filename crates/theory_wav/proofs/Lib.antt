pub mod Exact
pub mod Back
pub mod Evidence

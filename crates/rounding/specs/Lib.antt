pub mod Root
pub mod Narrow
pub mod Quotient
pub mod Inner

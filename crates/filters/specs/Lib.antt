pub mod Narrowed
pub mod Filter
pub mod EqFilter

pub mod Lines
pub mod Layout

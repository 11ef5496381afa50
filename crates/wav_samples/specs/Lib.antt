pub mod Sample
pub mod Frames

pub mod Sizes
pub mod Memories
pub mod Kinds
pub mod Places

pub mod Keeps
pub mod Moved
pub mod OnLines

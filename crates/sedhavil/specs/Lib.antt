pub mod Call
pub mod Read
pub mod Face

pub mod Stretch
pub mod Order
pub mod Chain
pub mod Render
pub mod Finish
pub mod Claims

pub mod Held
pub mod Position
pub mod Comb
pub mod AllPass
pub mod Frames

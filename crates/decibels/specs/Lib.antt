pub mod Amplitude
pub mod Power
pub mod Entry

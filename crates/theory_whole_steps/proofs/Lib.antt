pub mod Places
pub mod AmplitudesMet
pub mod WholeMet

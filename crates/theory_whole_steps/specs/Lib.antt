pub mod Amplitudes
pub mod WholeSteps

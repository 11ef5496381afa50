pub mod Integrators

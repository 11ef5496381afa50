pub mod Evidence

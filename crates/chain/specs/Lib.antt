pub mod Chain
pub mod Block
pub mod Run
pub mod Demands
pub mod Past
pub mod Table

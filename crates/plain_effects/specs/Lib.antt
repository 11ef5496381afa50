pub mod VolumeControl
pub mod PanningControl
pub mod Distortion

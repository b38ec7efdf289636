mod Examples
pub mod Layers

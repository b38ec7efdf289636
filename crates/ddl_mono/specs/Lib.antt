pub mod Copies
pub mod IsMono
pub mod MonoView

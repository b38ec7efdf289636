pub mod OneNames
pub mod OneSource

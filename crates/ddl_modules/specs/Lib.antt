pub mod Cycles
pub mod Files
pub mod Levels
pub mod Loaded
pub mod Loading
pub mod Queue
pub mod Reading

pub mod Headers
pub mod Layouts
pub mod Opened
pub mod Parts
pub mod Reaching
pub mod Specification

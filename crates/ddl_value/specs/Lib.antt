pub mod Builders
pub mod Values

pub mod Cutting
pub mod Modules
pub mod Resolves

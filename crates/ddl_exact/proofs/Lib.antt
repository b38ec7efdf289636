pub mod Names
pub mod Sources
pub mod Stops
pub mod Walks

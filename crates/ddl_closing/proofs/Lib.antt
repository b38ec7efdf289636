pub mod Done
pub mod Members
pub mod Steps
pub mod Turns

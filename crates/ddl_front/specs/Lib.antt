pub mod Front
pub mod Reasons

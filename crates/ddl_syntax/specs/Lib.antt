pub mod Answer
pub mod Finishes
pub mod Parses

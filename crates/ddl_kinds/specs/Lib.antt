pub mod BuiltIns
pub mod Findings
pub mod Found
pub mod Kinds
pub mod Meanings

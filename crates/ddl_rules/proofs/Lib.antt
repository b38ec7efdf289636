pub mod Composed
pub mod Guarding
pub mod Matched
mod RuleRows
pub mod Scoping

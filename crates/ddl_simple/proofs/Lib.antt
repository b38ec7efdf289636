pub mod Bare
pub mod Fields
pub mod Items
pub mod Lists
pub mod Names
pub mod Rows
pub mod Simple
pub mod Steps

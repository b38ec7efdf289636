pub mod Entries
pub mod Release

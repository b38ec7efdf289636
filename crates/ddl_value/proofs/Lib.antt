pub mod InPlace
pub mod Pushing

pub mod Alike
pub mod Casting
pub mod Found
pub mod JoinedWords
pub mod Lossless
pub mod Meeting
pub mod Powers
pub mod Searching

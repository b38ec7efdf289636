pub mod Numerals
pub mod Quoted
pub mod ReadBack
pub mod Show
pub mod Writes

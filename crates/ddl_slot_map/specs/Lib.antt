pub mod Fits
pub mod Pushed
pub mod View

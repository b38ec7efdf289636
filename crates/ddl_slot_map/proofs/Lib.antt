pub mod Cells
pub mod Exchange
pub mod Fitting
pub mod Pushed

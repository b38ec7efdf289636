pub mod Causes
pub mod Cycles
pub mod Inputs
pub mod Loadings
pub mod Runs
pub mod Shows
pub mod Stages
pub mod Turns

pub mod Carrying
pub mod Giving
pub mod Heads
pub mod SolverView
pub mod Turns

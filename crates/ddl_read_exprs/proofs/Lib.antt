pub mod NoBegin
pub mod NoHigh
pub mod StillOpen

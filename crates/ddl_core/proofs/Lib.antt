pub mod Law
pub mod Layers
pub mod OperationRows
pub mod Rows
pub mod Single

pub mod HeaderRows

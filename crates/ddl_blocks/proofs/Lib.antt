pub mod Allowed
pub mod Law
pub mod Rows
pub mod SlotLaw
pub mod SlotOperationRows
pub mod SlotRows
pub mod TypedRows

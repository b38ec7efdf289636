pub mod LayoutLayers
pub mod Meeting
pub mod Near
pub mod Paid
pub mod Rising
pub mod TellingJoins
pub mod TellingOperations

pub mod FoundView
pub mod Laws
pub mod Order
pub mod Owed
pub mod Renaming
pub mod SharedParts
pub mod Steps

pub mod Emission
pub mod Growing
pub mod Laws
pub mod Lone
pub mod Pieces
pub mod Program
pub mod Scope
pub mod Sizes

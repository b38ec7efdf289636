pub mod Bare
pub mod Beginning
pub mod Held
pub mod NamedArguments
pub mod NamedClasses
pub mod NamedTypes
pub mod States
pub mod Taken

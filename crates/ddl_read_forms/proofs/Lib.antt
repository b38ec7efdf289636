pub mod NamedParts
pub mod Tagged

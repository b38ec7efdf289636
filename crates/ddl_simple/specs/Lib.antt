pub mod Blocks
pub mod Form
pub mod Grammars
pub mod Modules
pub mod Scope
pub mod Views

pub mod Bindings
pub mod Forms
pub mod Held
pub mod Scope
pub mod Walks

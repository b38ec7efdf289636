pub mod NoModule

pub mod FilesLemmas
pub mod HostFilesLemmas
pub mod MemFilesLemmas
pub mod NamedLemmas
pub mod SinkLemmas

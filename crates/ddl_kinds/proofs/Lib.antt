pub mod Arguing
pub mod Finding
pub mod FirstBranch

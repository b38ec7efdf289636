pub mod Known
pub mod OneLoading
pub mod OneRun

pub mod Closing
pub mod Lines
pub mod Names
pub mod Numbers
pub mod Refusal
pub mod Values

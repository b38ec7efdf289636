pub mod HeightsOf
pub mod OneName
pub mod Opened
pub mod Views

mod SchemeRows
pub mod Appearing
pub mod Numbers
pub mod OneWalk
pub mod Owing
pub mod PlaceShapes
pub mod Sharings
pub mod Stacks
pub mod Stepping

mod TyRows
pub mod Arguments
pub mod BestFailureRows
pub mod Growing
pub mod Joins
pub mod KeptCut
pub mod KeptSame
pub mod KeptTwice
pub mod Mapping
pub mod NumRows
pub mod PlainLayers
pub mod PlainRows
pub mod Printing
pub mod TyLayers

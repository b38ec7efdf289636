pub mod ClassAlone
pub mod ClassEnds
pub mod TypeEnds
pub mod TypeStays

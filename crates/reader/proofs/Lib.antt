pub mod Ends
pub mod Sizes
pub mod Whole
pub mod Final
pub mod Pieces
pub mod Places
pub mod Ceilings

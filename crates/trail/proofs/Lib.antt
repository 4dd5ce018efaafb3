-- Laws that belong to no one function.
pub mod TermKind
pub mod Laws
pub mod Frames
pub mod Walks
pub mod Levels

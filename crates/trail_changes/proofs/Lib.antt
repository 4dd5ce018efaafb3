-- Laws that belong to no one function.
pub mod Pushes
pub mod Bases
pub mod Cuts

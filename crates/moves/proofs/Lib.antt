-- Laws that belong to no one function.
pub mod Gathers
pub mod Laws

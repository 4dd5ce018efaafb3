-- Laws that belong to no one function.
pub mod Bits
pub mod Windows
pub mod Members
pub mod Removals

-- Laws of the walk.
pub mod Bits
pub mod Numbers
pub mod Finds
pub mod Memory
pub mod Walks

-- The laws.
pub mod Laws
pub mod Answers
pub mod Meaning

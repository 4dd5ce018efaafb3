-- The laws.
pub mod Laws
pub mod Tests
pub mod Answers

-- The laws.
pub mod Laws
pub mod Tests

-- The laws.
pub mod States
pub mod Landed
pub mod Tests

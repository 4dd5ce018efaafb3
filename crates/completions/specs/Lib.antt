-- The search for a completion of a row that does not fit.
pub mod Needs
pub mod Search
pub mod First

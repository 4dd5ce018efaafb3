-- The definitions that the contracts cite.
pub mod Contract
pub mod Meaning

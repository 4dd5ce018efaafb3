-- The definitions that the contracts cite.
pub mod Verdict
pub mod Fault
pub mod Contract
pub mod Meaning

-- The definitions that the contracts cite.
pub mod Windows
pub mod Members

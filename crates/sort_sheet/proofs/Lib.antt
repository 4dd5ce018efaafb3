-- The number of a sort row.
pub mod Laws

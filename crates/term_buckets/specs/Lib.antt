-- What the contracts of this crate cite beside the calculus.
pub mod Buckets

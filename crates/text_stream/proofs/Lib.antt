pub mod Bytes
pub mod Runs

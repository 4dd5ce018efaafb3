pub mod Rows
pub mod View

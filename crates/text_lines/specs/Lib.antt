pub mod Lines
pub mod View

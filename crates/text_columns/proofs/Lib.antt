pub mod Cut
pub mod Lines
pub mod Splits

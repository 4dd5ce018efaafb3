pub mod Laws
pub mod Table
pub mod Fours
pub mod Lines

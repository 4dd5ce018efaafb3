pub mod Split
pub mod Class
pub mod Number
pub mod Words
pub mod Shape
pub mod Fours

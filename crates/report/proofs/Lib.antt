pub mod Digits
pub mod Short
pub mod Parts
pub mod Printed

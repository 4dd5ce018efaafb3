pub mod Put
pub mod Printed
pub mod Words
pub mod Complaint
pub mod Short
pub mod Examples

pub mod Cuts
pub mod Answers
pub mod Found
pub mod Meaning
pub mod Examples

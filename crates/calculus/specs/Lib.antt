-- The calculus as definitions, in the order of document 01: rows, trail, rules, steps, the run.
pub mod Lists
pub mod Numbers
pub mod Sheets
pub mod Sorts
pub mod Terms
pub mod Trail
pub mod Inputs
pub mod Rules
pub mod Clauses
pub mod Steps
pub mod Place
pub mod Run
pub mod WellFormed
pub mod Blame

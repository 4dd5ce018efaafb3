-- That the search misses no completion, and what places it finds.
pub mod First
pub mod Completion
pub mod Needed
pub mod Openings
pub mod Equalities
pub mod Connectives
pub mod Evaluation
pub mod Search
pub mod Theorem
pub mod Columns
pub mod Board

-- The step definition is the paper's relation.
pub mod Rows
pub mod Connectives
pub mod Walks
pub mod Rules
pub mod Clauses
pub mod FirstOrder
pub mod Trails
pub mod Acceptable
pub mod Spelling
pub mod Forth
pub mod Back
pub mod Theorem

-- Laws of a decision's test.
pub mod Laws

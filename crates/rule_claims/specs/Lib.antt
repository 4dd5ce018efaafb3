-- What a deduce, clash or fail row claims, as the rule tests take it.
pub mod Claims

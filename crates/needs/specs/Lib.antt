-- What the code of the premises that a rule needs holds.
pub mod Listed

-- Laws of the premises that a rule needs.
pub mod First
pub mod Listed
pub mod Rules

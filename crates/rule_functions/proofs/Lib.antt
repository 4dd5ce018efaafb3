-- Laws of the lists that the rules of this crate go through.
pub mod Laws

-- Laws of a claim's premises.
pub mod Laws

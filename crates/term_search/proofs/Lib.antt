-- Laws of the searches among term rows.
pub mod Laws

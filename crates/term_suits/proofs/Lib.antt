-- Laws of a row's arguments and of its head.
pub mod Laws

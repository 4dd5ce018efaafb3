-- Laws of the search for a completion.
pub mod Laid
pub mod Beginning
pub mod Claimed
pub mod Search
pub mod Place

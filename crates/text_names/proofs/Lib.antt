pub mod Laws
pub mod Search
pub mod Found
pub mod Table

pub mod Text
pub mod Stream
pub mod Places
pub mod Ceilings
pub mod Examples

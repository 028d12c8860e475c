pub mod Lookup
pub mod Laws

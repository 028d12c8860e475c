pub mod Each
mod Rows
pub mod Loads

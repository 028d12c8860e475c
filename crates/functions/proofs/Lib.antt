mod Signs
mod Filling
pub mod Fetching

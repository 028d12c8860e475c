pub mod ByShape
pub mod Fetching
pub mod Opcodes
pub mod Transfers
mod Distances

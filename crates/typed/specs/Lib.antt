pub mod Typing
pub mod Checking

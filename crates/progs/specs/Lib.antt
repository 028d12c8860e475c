pub mod Contexts
pub mod Numbers

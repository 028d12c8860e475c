pub mod Encoding
pub mod ListReturns

-- What the proofs of `text` share.
pub mod Copying
mod Decimal
mod Hexadecimal
mod Signed
pub mod ReadBack

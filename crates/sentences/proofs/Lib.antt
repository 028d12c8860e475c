-- What the proofs of `sentences` cite.
mod Displays
pub mod Laws

-- What the proofs of `writer` share.
mod Numbers
mod Functions
pub mod Program

-- What the proofs of `shown` share.
pub mod Laws

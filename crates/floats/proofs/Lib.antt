-- What the proofs of `floats` share.
pub mod Cells
pub mod Whole
pub mod Opcodes
pub mod Wholes

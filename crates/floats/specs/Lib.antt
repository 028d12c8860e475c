-- What the contracts of `floats` cite besides the definition.
pub mod Scaled
pub mod Opcodes
pub mod Rounding
pub mod Vectors

-- What the proofs of `load_files` share.
mod Shifts
mod Drawing
mod Making

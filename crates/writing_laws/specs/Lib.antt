-- Laws of written program files, document 02's R-6: writing gives back what was read, and reading what was written.
pub mod Copied
pub mod ReadBack
pub mod Written
pub mod Loads
pub mod Lumps
pub mod Examples

-- Laws of padded program files, document 02's R-7. They are in PaddedFile, Padding and Loads; the modules before these go through the statements, one shape
-- after another.
pub mod Cells
pub mod Conditions
pub mod Effects
pub mod Statements
pub mod Transfers
pub mod PaddedFile
pub mod Padding
pub mod Loads

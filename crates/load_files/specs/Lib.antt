-- The definition of document 02's R-10: what is drawn, and the load file that is made of it.
pub mod Draws
pub mod LoadFile
pub mod Laws

-- What the load file program reads and prints.
pub mod Numbers
pub mod Printed
pub mod Laws

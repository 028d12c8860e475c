pub mod Loading
pub mod Found
pub mod Layout
pub mod Writing
pub mod Unpacking
pub mod Display
pub mod Making

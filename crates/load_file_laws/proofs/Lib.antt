-- The laws, proved.
pub mod Loads
pub mod Ends

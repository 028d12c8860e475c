pub mod Lent
pub mod Checked

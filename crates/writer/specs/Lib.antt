pub mod Header
pub mod Outcomes

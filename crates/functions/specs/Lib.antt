pub mod Answers
pub mod Numbers
pub mod Laws
pub mod Parts
pub mod PartLaws

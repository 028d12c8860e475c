-- Outcome sentences (document 02, R-8): the line and the operation, then examples and laws of them.
pub mod Sentence
pub mod Examples
pub mod Laws

-- What the contracts of `text` cite besides the definition: the texts, and what it is to write one into a buffer; then examples and laws of the texts.
pub mod Text
pub mod Output
pub mod Writing
pub mod Examples
pub mod Laws
pub mod ReadBack

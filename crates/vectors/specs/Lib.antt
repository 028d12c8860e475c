-- What the contracts of `vectors` cite.
pub mod Words

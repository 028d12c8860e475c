-- What the proof of `image` cites.
mod Thirteen

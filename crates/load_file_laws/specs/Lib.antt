-- Laws of load files, document 02's R-10, for every seed and every n from 1 to 1,000: such a file always loads, and its function 1 always ends.
pub mod Drawn
pub mod Loads
pub mod Steps
pub mod Ends
pub mod Answers
pub mod Examples

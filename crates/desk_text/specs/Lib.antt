-- Document 01, 'The desk program': the lines that are calls, and the lines of output.
pub mod Line
pub mod Fields
pub mod Output

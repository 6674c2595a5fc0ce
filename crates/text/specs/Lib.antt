-- Document 01, 'The desk program': numbers, lines and fields of a text.
pub mod Parts
pub mod Number
pub mod Script
pub mod Left
pub mod Output

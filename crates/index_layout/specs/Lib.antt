-- What the functions of the layout answer, in document 01's numbers.
pub mod Headers
pub mod Entries
pub mod Blocks
pub mod Places

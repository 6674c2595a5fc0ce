-- The laws of the layout's answers.
pub mod Shapes
pub mod Entries
pub mod Answers
pub mod Places
pub mod Samples

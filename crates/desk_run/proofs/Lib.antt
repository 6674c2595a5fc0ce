-- The laws of a script that is run.
pub mod AnswerLine
pub mod Runs
pub mod Samples

-- The laws of replies.
pub mod Numbers
pub mod Outcomes
pub mod Answers
pub mod Sayable
pub mod Writings
pub mod Same
pub mod Samples

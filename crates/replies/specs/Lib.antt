-- What calls answer, what their replies mean, and what a call does.
pub mod Replies
pub mod Writing
pub mod Effects
pub mod Answered

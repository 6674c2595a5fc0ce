-- What is told of calls.
pub mod Tellings
pub mod FullStates
pub mod Performs
pub mod Full
pub mod Samples

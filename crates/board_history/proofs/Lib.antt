-- The history rule over the board's calls.
pub mod Samples
pub mod Instances
pub mod Theorem

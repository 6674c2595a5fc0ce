-- The laws of the month board.
pub mod Samples
pub mod FullStates
pub mod Instances
pub mod Jobs
pub mod Lookups
pub mod Lines
pub mod Found
pub mod Printing
pub mod Year
pub mod Limits
pub mod Full
pub mod Cases
pub mod ReadBack

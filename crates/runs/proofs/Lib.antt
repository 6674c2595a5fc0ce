-- The induction over runs, laws of the map and of plans, lookups before mending, and both claims as computed tests.
pub mod Runs
pub mod MapLaws
pub mod Plans
pub mod BeforeMending
pub mod Samples
pub mod MendSamples
pub mod Checked

-- The laws of stores, plans and their lists.
pub mod Samples
pub mod Tests
pub mod Lists
pub mod Numbers
pub mod Stores
pub mod Prefixes
pub mod Parts
pub mod Plans
pub mod Differences
pub mod Written
pub mod Loops

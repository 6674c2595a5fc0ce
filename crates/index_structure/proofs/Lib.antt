-- The laws that the proofs of the structure's functions share.
pub mod Empties
pub mod Copies
pub mod Splits
pub mod Merges
pub mod Found

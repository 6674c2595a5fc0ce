-- What a split and a merge ask of their callers, and their stores by a key's place.
pub mod Splits
pub mod Merges

-- The laws that the proofs of the directory's functions share.
pub mod Samples
pub mod Answers
pub mod Bits
pub mod BitSets
pub mod Segments
pub mod Blocks
pub mod Doubles
pub mod Updates
pub mod Buddies
pub mod Mends

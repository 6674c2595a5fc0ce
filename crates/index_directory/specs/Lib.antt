-- What the functions of the directory answer, in document 01's numbers.
pub mod Scans
pub mod BitSets
pub mod Frees
pub mod Updates
pub mod Buddies

-- The laws that the proofs of the calls share.
pub mod Places
pub mod Calls
pub mod Merges
pub mod Listings
pub mod Puts
pub mod Performs

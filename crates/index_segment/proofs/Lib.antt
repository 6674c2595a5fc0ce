-- Laws of a slot's words, of the search, of the copy step, of the slots of a merge, and of listing.
pub mod Words
pub mod Search
pub mod Copies
pub mod Merges
pub mod Records
pub mod Parts

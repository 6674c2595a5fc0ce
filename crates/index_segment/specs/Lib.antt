-- What the code answers and promises of one segment.
pub mod Slot
pub mod Bucket
pub mod Answers
pub mod Listing
pub mod Merge

-- Statements about the definitions of the index.
pub mod SameListing
pub mod JoinedListing
pub mod OneNumber
pub mod Finished
pub mod RolledBack
pub mod Full
pub mod Limits

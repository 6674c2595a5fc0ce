-- Documents 01 and 02 as definitions, in their order.
pub mod Layout
pub mod Keys
pub mod Scan
pub mod Slots
pub mod Format
pub mod Get
pub mod Split
pub mod Put
pub mod Remove
pub mod Merge
pub mod Mend
pub mod Listing
pub mod ListBlock
pub mod Step
pub mod Given

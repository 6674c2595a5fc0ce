-- Document 02, wish 2, as definitions: the month board.
pub mod Jobs
pub mod Tested
pub mod Print
pub mod Passes
pub mod ReadBack
pub mod Claims
pub mod Full

-- The history rule over the board's calls.
pub mod BoardHistory

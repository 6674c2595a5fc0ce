-- Document 01, 'The desk program': what a script gives.
pub mod Run
pub mod Progress

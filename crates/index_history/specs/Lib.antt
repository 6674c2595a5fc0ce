-- The history rule (document 01: 'The plain table and the history rule').
pub mod History
pub mod Listing
pub mod Further

-- The known states, and the rows that the edits of the gate are refused by.
pub mod Table
pub mod States
pub mod Rows
pub mod Given

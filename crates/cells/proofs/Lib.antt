-- The laws of cells.
pub mod Samples
pub mod Cells
pub mod Holds

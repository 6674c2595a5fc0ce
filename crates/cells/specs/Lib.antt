-- What any store of keys and values has: cells, the search for a key among some of them, and the stores into one.
pub mod Cells

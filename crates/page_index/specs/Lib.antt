-- The calls as C sees them.
pub mod Told
pub mod Full

-- The laws of the desk program's text.
pub mod Reading
pub mod Held
pub mod Made
pub mod Texts
pub mod Samples

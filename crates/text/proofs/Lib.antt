-- The laws of texts.
pub mod Digits
pub mod FirstPart
pub mod Appended
pub mod Progress
pub mod Lines
pub mod NextLine
pub mod Joined
pub mod Samples

-- What the calls promise of a block and of a slot.
pub mod Blocks
pub mod Slots
pub mod NextBlocks

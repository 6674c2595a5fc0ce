-- The abstract map, a run of calls on a store, and the claims about it.
pub mod Map
pub mod Run
pub mod BeforeMending
pub mod Check

-- A store, a plan, the cut of a plan by an allowance, and how two arrays differ.
pub mod Options
pub mod Lists
pub mod Store
pub mod Plan
pub mod Executed
pub mod Written
pub mod Difference

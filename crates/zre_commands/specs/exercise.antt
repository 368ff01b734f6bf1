pub mod Counted
pub mod Counts
pub mod Exercise
pub mod Settings
pub mod Summary

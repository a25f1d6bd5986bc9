pub mod Counts
pub mod Fronts
pub mod Kept
pub mod Waiting

pub mod Holdings
pub mod Pipings

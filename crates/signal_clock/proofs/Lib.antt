pub mod Shifts
pub mod Safety
pub mod Order
pub mod Places
pub mod Passing
pub mod Intervals
pub mod ActionItems

pub mod Attaching
pub mod Giving

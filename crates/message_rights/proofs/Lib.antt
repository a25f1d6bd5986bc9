pub mod Attachings
pub mod Givings

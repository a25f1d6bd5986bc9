pub mod FileItems
pub mod Workings

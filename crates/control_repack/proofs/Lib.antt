pub mod Behind
pub mod Messages
pub mod Putting
pub mod Telling

pub mod Ranges
pub mod Foreign
pub mod Own

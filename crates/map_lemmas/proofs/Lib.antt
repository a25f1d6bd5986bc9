pub mod Steps
pub mod Maps

pub mod Bytes
pub mod Copies
pub mod Listings
pub mod Names

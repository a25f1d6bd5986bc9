pub mod Contents
pub mod Transfers
pub mod Copies
pub mod Listings
pub mod Entries
pub mod Walks
pub mod Making
pub mod Renaming

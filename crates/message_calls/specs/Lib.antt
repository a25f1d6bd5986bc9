pub mod Fetching
pub mod Making
pub mod Meeting
pub mod Naming
pub mod Accepting
pub mod Choice

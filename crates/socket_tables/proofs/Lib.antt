pub mod Holdings
pub mod NameEntries
pub mod Namings
pub mod ItemsLeft
pub mod Receivings

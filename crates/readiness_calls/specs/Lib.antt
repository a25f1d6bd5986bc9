pub mod PollEntries
pub mod Polls
pub mod SelectSets
pub mod SetSeen
pub mod Selects
pub mod Choice

pub mod Descriptors
pub mod Directories
pub mod Locks
pub mod Polls
pub mod Positions
pub mod Stats
pub mod Vectors

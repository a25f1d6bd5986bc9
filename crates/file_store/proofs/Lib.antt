pub mod Moves
pub mod Closings
pub mod Sweepings

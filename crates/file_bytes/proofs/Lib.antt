pub mod Rows
pub mod Pieces
pub mod Cuts
pub mod Contents
pub mod FirstPage
pub mod NextRun
pub mod Runs
pub mod Counts

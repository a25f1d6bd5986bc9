pub mod Views
pub mod Sound
pub mod Making
pub mod Changing
pub mod Removing
pub mod Reading
pub mod Runs

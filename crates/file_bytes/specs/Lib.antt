pub mod Row
pub mod Pages
pub mod Runs
pub mod Search
pub mod Filled

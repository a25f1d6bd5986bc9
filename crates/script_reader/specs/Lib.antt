pub mod Fields
pub mod Grammar
pub mod Seen
pub mod Ending
pub mod Script
pub mod Ahead
pub mod Reads
pub mod Causes

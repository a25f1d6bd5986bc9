pub mod Ordered
pub mod FreeNumbers
pub mod Steps

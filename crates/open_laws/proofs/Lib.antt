pub mod Values
pub mod Held
pub mod Follows
pub mod Made
pub mod Named
pub mod Waiting
pub mod Ended

pub mod Sets
pub mod Sending
pub mod Actions
pub mod Masks
pub mod Stacks
pub mod Timers
pub mod Choice

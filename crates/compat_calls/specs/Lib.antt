pub mod Ready
pub mod World
pub mod Choice
pub mod Identity
pub mod Limits
pub mod Times
pub mod Trap

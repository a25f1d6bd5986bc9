pub mod Pages
pub mod Memory
pub mod Changes
pub mod Places
pub mod States
pub mod Rights
pub mod Prefixes

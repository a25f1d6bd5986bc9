pub mod NameMap
pub mod Sockets
pub mod Meeting
pub mod Naming
pub mod Sending
pub mod Receiving
pub mod Readiness
pub mod Items

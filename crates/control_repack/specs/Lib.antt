pub mod Incoming
pub mod Laws
pub mod Outgoing
pub mod Regions

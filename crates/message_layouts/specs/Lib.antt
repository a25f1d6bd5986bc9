pub mod Addresses
pub mod Contents
pub mod Controls
pub mod Credentials
pub mod Headers
pub mod Laws
pub mod Walks

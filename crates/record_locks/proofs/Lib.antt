pub mod Places
pub mod Maximal
pub mod ByteKinds
pub mod OwnLocks

pub mod LaterBytes
pub mod EntryTurns
pub mod SetBytes

pub mod StateText
pub mod Machine
pub mod Run
pub mod Answers
pub mod Wrote
pub mod Codes

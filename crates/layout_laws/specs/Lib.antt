pub mod Abis
pub mod Columns
pub mod Laws
pub mod Rows
pub mod Shapes
pub mod Stored
pub mod Tables

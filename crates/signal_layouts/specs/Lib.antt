pub mod Nested
pub mod Words
pub mod Actions
pub mod Arm
pub mod Ia32
pub mod Infos
pub mod Sets
pub mod Stacks

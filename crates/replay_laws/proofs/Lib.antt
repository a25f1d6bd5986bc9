pub mod Pages
pub mod Trees
pub mod Kernels
pub mod Lines
pub mod Machines
pub mod Scripts

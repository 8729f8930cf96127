pub mod Turns
pub mod Slices

pub mod Window
pub mod Strays

pub mod Names
pub mod Coded

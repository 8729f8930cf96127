pub mod Match
pub mod Codes
pub mod Back
pub mod Rows

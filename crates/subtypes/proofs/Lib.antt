pub mod Index
pub mod Ascending

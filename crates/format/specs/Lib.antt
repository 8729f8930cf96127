pub mod Ascii
pub mod Codes
pub mod Utf8
pub mod Layout
pub mod Rows
pub mod Strict
pub mod Meaning

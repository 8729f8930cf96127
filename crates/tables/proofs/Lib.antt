pub mod Table
mod Bits
pub mod Codes

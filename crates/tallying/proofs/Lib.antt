pub mod Counting
mod Skimming
pub mod Going
pub mod Promises

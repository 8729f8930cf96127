pub mod Bodies
pub mod Means

mod Numbers
mod Strays
mod Bodies
pub mod Accepts

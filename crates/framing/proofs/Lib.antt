pub mod Stops
pub mod Loop

pub mod Trips
pub mod Outcomes

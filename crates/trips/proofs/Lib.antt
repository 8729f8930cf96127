pub mod Fields
pub mod Legal
pub mod Back
pub mod Rewritten
pub mod Calls
pub mod Outcomes

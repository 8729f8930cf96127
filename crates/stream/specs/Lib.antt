pub mod Meaning
pub mod State
pub mod Next
pub mod Room
pub mod Told

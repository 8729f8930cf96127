pub mod Walk
pub mod Frames
pub mod Meaning

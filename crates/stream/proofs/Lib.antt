pub mod Bounds
pub mod Windows
pub mod Rooms

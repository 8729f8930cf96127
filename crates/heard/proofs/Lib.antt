pub mod Inputs
pub mod Windows
pub mod Holds
pub mod Ended
pub mod Every
pub mod Cuttings

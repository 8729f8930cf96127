pub mod Back
mod Tags
mod Parts

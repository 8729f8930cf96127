pub mod Flatten

pub mod Rows
pub mod Window
pub mod Answers
pub mod Numbers
pub mod Unique

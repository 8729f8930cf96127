pub mod Steps
pub mod Calls
pub mod Reach
pub mod Reads52
pub mod Never30
pub mod Replies

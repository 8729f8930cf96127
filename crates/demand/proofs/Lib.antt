pub mod Steps
pub mod Walks
pub mod Cut
pub mod Overwriting
pub mod Demand3
pub mod Thirty
pub mod Empty
pub mod Reports

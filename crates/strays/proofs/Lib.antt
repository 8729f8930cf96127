mod Sought
mod Rows

pub mod Types
pub mod Starts
pub mod Steps

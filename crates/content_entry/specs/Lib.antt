pub mod Behind
pub mod Entries

pub mod Values
pub mod Meaning
pub mod Rows
pub mod Sums
pub mod Texts
pub mod Steps
pub mod Views

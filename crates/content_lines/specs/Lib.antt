pub mod Formats
pub mod Lines
pub mod Words
pub mod Customers

pub mod Tags
pub mod Fields
pub mod Written

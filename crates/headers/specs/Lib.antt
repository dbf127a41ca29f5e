pub mod Parts
pub mod Basic
pub mod Application
pub mod Trailer
pub mod User

pub mod Walk
pub mod Render
pub mod Examples

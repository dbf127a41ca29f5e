pub mod Places
pub mod Shapes
pub mod Laws
pub mod Chosen
pub mod Writing

pub mod Classes
pub mod Refusals
pub mod Bytes
pub mod Lent

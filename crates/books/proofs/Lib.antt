pub mod Apart
pub mod Changes
pub mod Gaps
pub mod Packing
pub mod Places

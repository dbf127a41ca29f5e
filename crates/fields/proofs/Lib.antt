pub mod Steps
pub mod Bodies
pub mod Trips
pub mod Backs

pub mod Bounds
pub mod UserTrips
pub mod TextTrips
pub mod Backs

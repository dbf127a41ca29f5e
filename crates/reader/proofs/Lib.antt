pub mod Sounds
pub mod RowSteps
pub mod FieldSteps
pub mod Gathering
pub mod Readings
pub mod Formats
pub mod Shown

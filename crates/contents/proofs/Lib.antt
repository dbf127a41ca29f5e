pub mod Calendar
pub mod Steps
pub mod AmountParts
pub mod NormalAmounts

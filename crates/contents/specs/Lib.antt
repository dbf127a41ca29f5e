pub mod Digits
pub mod Dates
pub mod Times
pub mod Amounts
pub mod AmountLaws
pub mod Examples

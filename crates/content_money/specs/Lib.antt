pub mod Money
pub mod Signs
pub mod Balances
pub mod Numbers
pub mod Examples

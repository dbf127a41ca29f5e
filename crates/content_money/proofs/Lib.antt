pub mod Dated
pub mod MoneyLaws
pub mod NumberLaws
pub mod BalanceLaws

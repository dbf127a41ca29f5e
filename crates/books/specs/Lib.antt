pub mod Keys
pub mod References
pub mod Numbers
pub mod States
pub mod Lists
pub mod Calls
pub mod Runs
pub mod KeyLaws

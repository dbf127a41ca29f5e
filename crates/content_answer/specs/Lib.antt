pub mod Answers
pub mod Related

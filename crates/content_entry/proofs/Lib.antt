pub mod Steps
pub mod FrontLaws
pub mod BehindLaws
pub mod EntryLaws

pub mod Answers
pub mod Holdings

pub mod Anew
pub mod Stages
pub mod Laws
pub mod JobAnswers
pub mod Promises
pub mod Jobs
pub mod Answers

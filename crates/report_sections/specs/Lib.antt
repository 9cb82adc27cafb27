pub mod Limits
pub mod RightAnswers
pub mod TrueAnswers
pub mod Sections
pub mod CommandNeeds
pub mod Answers

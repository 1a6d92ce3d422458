-- What is proved of the definitions themselves.
pub mod ReplyLaws
pub mod AgentNumbers
pub mod Ranges
pub mod BadSteps

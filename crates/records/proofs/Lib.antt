-- Laws that more than one proof cites, and what is proved of the definitions themselves.
pub mod BadSteps
pub mod Filled
pub mod Parts
pub mod InTurn
pub mod Within
pub mod Passed
pub mod Decoding
pub mod Encoding
pub mod Refusals
pub mod Places
pub mod Goals
pub mod Kept
pub mod FitRecords

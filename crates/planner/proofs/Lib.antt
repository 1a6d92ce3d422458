-- Laws that the proofs share, and what is proved of the definitions themselves.
pub mod Kept
pub mod Replies
pub mod FitPlans

-- Laws of the velocity call, beside the proofs of its functions.
pub mod FitCalls
pub mod Places
pub mod Unseen
pub mod CallLaws
pub mod Cleared

-- Laws of the checks, beside the proofs of their functions.
pub mod CallNumbers
pub mod Says
pub mod Passed
pub mod FitChecks

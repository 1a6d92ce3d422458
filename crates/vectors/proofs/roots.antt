-- Laws of eight roots side by side, beside the proofs of their functions.
pub mod Lanes

-- Laws of the 4D program, beside the proofs of its functions.
pub mod Scratch

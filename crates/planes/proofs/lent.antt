-- Laws of what is read, beside the proofs of the functions.
pub mod RequestLaws

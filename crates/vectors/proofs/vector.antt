-- Laws of vectors, beside the proofs of their methods.
pub mod NotZero
pub mod ByLength
pub mod ByComponent

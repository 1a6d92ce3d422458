-- Laws of the stages, beside the proofs of their functions.
pub mod Select
pub mod InStages

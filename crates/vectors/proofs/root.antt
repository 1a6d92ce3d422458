-- Laws of the square root, beside the proofs of its functions.
pub mod Whole
pub mod Digits
pub mod Binary
pub mod NotAbove
pub mod Nearest

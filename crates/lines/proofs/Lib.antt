-- Laws that the proofs share.
pub mod Digits
pub mod Parts

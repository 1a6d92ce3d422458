-- What the contracts of `src/` cite.
pub mod Cases
pub mod Scratch

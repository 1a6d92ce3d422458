-- What the contracts of `src/pairs.rt` cite.
pub mod Pairs

-- What the contracts of `src/lib.rt` cite.
pub mod Fields
pub mod Lines

-- Laws that the proofs share, and what is proved of a tick in one piece.
pub mod Steps
pub mod Canonical
pub mod InTurn

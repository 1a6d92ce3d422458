-- A tick in one piece, as a definition over the fleet's calls.
pub mod Tick
pub mod Claims

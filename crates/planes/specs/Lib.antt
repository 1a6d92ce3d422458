-- The first half of document 01's module 7: planes from neighbours. To be read beside lib.rs. `Claims` is what is proved of them; `parts` is only what private
-- functions promise each other.
pub mod Lent
pub mod Neighbour
pub mod Planes
pub mod Claims
pub mod parts

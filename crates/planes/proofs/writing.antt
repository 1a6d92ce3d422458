-- Laws of the planes that are made and written, beside the proofs of their functions.
pub mod EachMade
pub mod WrittenPlanes
pub mod Passing

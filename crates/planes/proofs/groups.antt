-- Laws on lanes, beside the proofs of the functions of a group.
pub mod Lanes

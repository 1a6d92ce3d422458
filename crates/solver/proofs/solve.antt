-- What is proved of a solve, beside the proof of its function.
pub mod Binary32

-- What the exported functions answer, where that is not a definition of the crates below.
pub mod Version
pub mod Unfit
pub mod Velocity
pub mod Tick

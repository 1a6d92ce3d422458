-- What is proved of the definitions themselves.
pub mod Refusals
pub mod SameInputs
pub mod Examples
pub mod Velocities

-- The velocity call, document 01's module 7: the checks, the planes from the neighbours, the solve of them, and the answer. To be read beside lib.rs. `Claims` is
-- what is proved of it; `parts` is only what private functions promise each other.
pub mod Velocity
pub mod Conditions
pub mod Examples
pub mod Claims
pub mod parts

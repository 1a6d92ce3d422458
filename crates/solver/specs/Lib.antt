-- The linear programs, as definitions on lists of planes: document 01's modules 2 to 6, each to be read beside the function of linear_programming.rs that its first line names. `Lent` says how a list of planes is passed as numbers; `Claims` is what is proved of them.
pub mod Plane
pub mod Lent
pub mod AlongLine
pub mod AlongPlane
pub mod ThreeD
pub mod FourD
pub mod Solve
pub mod Examples
pub mod Claims

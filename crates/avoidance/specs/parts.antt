-- What private functions promise each other: nobody has to believe it.
pub mod Velocity

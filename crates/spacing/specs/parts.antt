-- What private functions promise each other: nobody has to believe it.
pub mod Millimetres
pub mod Frame
pub mod Spots
pub mod Pairs
pub mod Tally

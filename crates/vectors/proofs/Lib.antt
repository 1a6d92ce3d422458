-- Laws that more than one proof cites, here or in the crates above.
pub mod Truth
pub mod NotANumber
pub mod Product
pub mod Finite
pub mod FiniteByZero
pub mod Stored

-- What is proved of the definitions themselves, and laws that more than one proof cites.
pub mod Carry
pub mod Examples
pub mod Nearest
pub mod OutOfReach
pub mod Patterns
pub mod Positions
pub mod Refusals
pub mod RootDigits
pub mod Rows
pub mod Sizes
pub mod SmallestOf
pub mod Squares
pub mod TallyReport
pub mod Tracked
pub mod WholeNumbers
pub mod WithFrame
pub mod WithinReach

-- Document 02's request [4], the spacing report.
pub mod Millimetres
pub mod Frame
pub mod Report
pub mod Answers
pub mod Tally
pub mod Claims
pub mod parts

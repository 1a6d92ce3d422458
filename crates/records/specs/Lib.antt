-- Stored agents, of document 01's module 8: records, their checks, the fleet file and a reader over it.
pub mod Record
pub mod Checks
pub mod List
pub mod File
pub mod Reader
pub mod Conditions
pub mod Claims

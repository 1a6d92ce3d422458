-- The fleet table, as definitions on lists of records: document 01's module 8, to be read beside simulator.rs.
pub mod Answer
pub mod Table
pub mod Load
pub mod Save
pub mod Tick
pub mod Plan
pub mod Calls
pub mod Runs
pub mod Sound
pub mod Claims

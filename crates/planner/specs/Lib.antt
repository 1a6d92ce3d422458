-- The neighbours that a rule keeps and the velocity call on them, as definitions on lists of records: document 01's module 8, to be read beside simulator.rs.
pub mod Rule
pub mod Plan

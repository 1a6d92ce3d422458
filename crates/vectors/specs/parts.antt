-- What private functions promise each other, in terms that no public contract cites.
pub mod Root
pub mod Roots

-- The definitions of document 01's module 1, which every layer above cites; but for `parts`, which only private functions and proofs cite. `Claims` is what is proved of them.
pub mod Number
pub mod Root
pub mod Vec3
pub mod Promise
pub mod Claims
pub mod parts

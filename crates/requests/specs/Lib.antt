-- What a velocity call is given and what it answers, document 01's module 7: agents and requests as numbers, the checks, and the reply.
-- `Claims` is what is proved of them.
pub mod Lent
pub mod Request
pub mod Checks
pub mod Reply
pub mod Claims

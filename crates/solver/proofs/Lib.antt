-- Laws that more than one proof cites, and what is proved of the definitions themselves.
pub mod Planes
pub mod Written
pub mod LentPlanes
pub mod Stopped
pub mod InTurn
pub mod NoBadClamp
pub mod Why
pub mod Examples

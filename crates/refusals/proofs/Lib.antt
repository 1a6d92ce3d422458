-- Laws of conditions and verdicts, for the layers above.
pub mod Conditions
pub mod Verdicts

-- Why a call is refused: the documents' table of numbered answers, the first condition that holds, and checks one after another.
pub mod Refusal
pub mod Conditions
pub mod Verdict

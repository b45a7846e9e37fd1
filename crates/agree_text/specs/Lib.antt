-- What the contracts of agree_text cite besides the definitions of the automata.
pub mod FirstLine
pub mod Wrote
pub mod Kept

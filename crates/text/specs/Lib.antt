-- What the contracts of text cite besides the definitions of the automata.
pub mod Answers

-- What the contracts of lines cite besides the definitions of the automata.
pub mod Lines

-- What the contracts of columns cite besides the definitions of the automata.
pub mod Columns

-- What the contracts of a forecast's counts cite: the states of the work space, and the symbols of the arc records.
pub mod Counts
pub mod Symbols

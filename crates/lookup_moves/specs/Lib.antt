-- What the contracts on the cells of a lookup cite.
pub mod Distances
pub mod Spots
pub mod Moves

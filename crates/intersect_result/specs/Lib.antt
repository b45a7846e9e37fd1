-- What the contracts on the result of an auto-intersection cite.
pub mod Standing
pub mod Searched

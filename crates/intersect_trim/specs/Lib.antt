-- What the contracts over the kept configurations cite.
pub mod Ranks
pub mod Rows
pub mod Result
pub mod Model

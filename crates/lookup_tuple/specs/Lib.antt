-- What the contracts on a tuple's strings cite.
pub mod Strings
pub mod Lines
pub mod Judgement
pub mod Positions

-- What the contracts over edges between configurations cite.
pub mod Edges
pub mod Marked

-- What the contracts on the pair line cite.
pub mod PairBytes
pub mod PairColumns
pub mod LineParts

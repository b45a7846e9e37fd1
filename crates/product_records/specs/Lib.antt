-- What the contracts on the records of a product cite.
pub mod Sums
pub mod Results

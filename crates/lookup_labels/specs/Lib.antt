-- What the contracts on the numbers of labels cite.
pub mod Numbers

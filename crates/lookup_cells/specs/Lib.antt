-- What the contracts on the cells of a lookup cite.
pub mod Fillable
pub mod Recall
pub mod Chains
pub mod Queues
pub mod Pushes
pub mod Ends
pub mod Filled

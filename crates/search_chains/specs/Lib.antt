-- What the contracts on hash chains cite.
pub mod Parts
pub mod Chain
pub mod Hash
pub mod Inserted

-- What the contracts of the auto-intersection as it is called cite.
pub mod Step
pub mod Prepared

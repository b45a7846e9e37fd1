-- The definitions that contracts over configurations cite.
pub mod Leftovers
pub mod Configs
pub mod Steps

-- What the contracts on the head of the search over configurations cite.
pub mod Searching
pub mod Starting

-- What the search for a record, its entry and the records kept cite.
pub mod Find
pub mod Inserted
pub mod Kept
pub mod Comes
pub mod Progress

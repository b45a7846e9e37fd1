-- The records of the tables whose closing delays are printed.
pub mod Tables

-- What the contracts on the lines printed of a table cite.
pub mod Printed

-- What the contracts of the search over a product's states cite.
pub mod Vertices
pub mod Moves
pub mod Plans
pub mod Reading
pub mod Searching
pub mod Starting
pub mod Exploring

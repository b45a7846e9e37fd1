-- What the contracts on the plan of a search and on the offers of arcs cite.
pub mod Held
pub mod Plans
pub mod Offers

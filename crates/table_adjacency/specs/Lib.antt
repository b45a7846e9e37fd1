-- What the contracts on the arcs by their sources cite.
pub mod Chains
pub mod Distinct

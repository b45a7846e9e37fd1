-- Facts of the arcs by their sources.
pub mod ChainFacts
pub mod DistinctFacts

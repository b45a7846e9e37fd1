-- Facts of the vectors and of the edges.
pub mod VectorFacts
pub mod RunFacts
pub mod SweepFacts
pub mod RoundFacts
pub mod LowerFacts
pub mod TableFacts

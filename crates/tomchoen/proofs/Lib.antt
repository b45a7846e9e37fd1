-- Facts of answers as numbers.
pub mod WordFacts
pub mod FitFacts
pub mod WeightFacts

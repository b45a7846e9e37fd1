-- Facts that belong to no one function.
pub mod FormFacts
pub mod OfferFacts

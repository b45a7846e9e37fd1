-- Facts of a lookup as it is called.
pub mod JudgeFacts
pub mod CallFacts

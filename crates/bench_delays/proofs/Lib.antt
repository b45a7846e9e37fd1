-- Arcs that join states, one by one.
pub mod JoinedFacts

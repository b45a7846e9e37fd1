-- Facts of the head of the search over configurations.
pub mod AgreeFacts
pub mod EntryFacts
pub mod HeldFacts
pub mod VisitFacts
pub mod TurnFacts
pub mod StartFacts

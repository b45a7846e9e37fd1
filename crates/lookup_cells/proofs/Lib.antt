-- Facts that belong to no one function.
pub mod EndFacts
pub mod FillFacts
pub mod RecallFacts
pub mod ChainFacts
pub mod QueueFacts
pub mod DequeueFacts
pub mod PushFacts
pub mod MoveMeaning
pub mod DistanceFacts
pub mod RelaxFacts
pub mod PushMeaning
pub mod SpotMeaning
pub mod StartMeaning
pub mod LeastMeaning

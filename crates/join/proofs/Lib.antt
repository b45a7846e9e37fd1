-- Facts of a join as it is called.
pub mod RoomFacts
pub mod JudgeFacts
pub mod CallFacts

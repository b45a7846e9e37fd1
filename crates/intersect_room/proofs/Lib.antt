-- Facts that belong to no one function.
pub mod RoomFacts

-- Facts of the records of unions and of tables with other tapes.
pub mod RewriteFacts
pub mod ChoiceFacts
pub mod RoomFacts
pub mod RaiseFacts

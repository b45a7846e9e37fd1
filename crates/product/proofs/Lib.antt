-- Facts of the aligned product as it is called.
pub mod SideModel
pub mod MoveModel
pub mod CrossFacts
pub mod AnswerFacts
pub mod CallFacts

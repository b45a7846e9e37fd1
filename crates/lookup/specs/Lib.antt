-- What the contracts of a lookup as it is called cite.
pub mod Judgement
pub mod Answers

-- What the contracts on the records of unions and of tables with other tapes cite.
pub mod Rewritten
pub mod Choice
pub mod Results

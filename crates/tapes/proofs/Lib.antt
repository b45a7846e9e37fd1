-- Facts of unions and of tables with other tapes.
pub mod TapesFacts
pub mod DropFacts
pub mod DropCall
pub mod ProjectCall
pub mod UnionCall

-- Facts of columns that are read and written.
pub mod ColumnFacts
pub mod WriteFacts
pub mod WeightFacts
pub mod LabelFacts
pub mod ValueFacts

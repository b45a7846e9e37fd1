-- Facts of edges in work space and of marks.
pub mod EdgeFacts
pub mod MarkFacts

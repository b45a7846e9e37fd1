-- Facts of the records of a product.
pub mod SumFacts
pub mod RecordFacts
pub mod ResultFacts

-- Facts of the first line of an input and of the program's steps.
pub mod FirstFacts
pub mod CutFacts
pub mod RefusalFacts
pub mod PrintFacts
pub mod KeptFacts

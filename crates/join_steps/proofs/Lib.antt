-- Facts of a join's steps.
pub mod MaskFacts
pub mod DropFacts
pub mod KeepFacts
pub mod StepFacts

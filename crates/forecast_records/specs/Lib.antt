-- What the contracts of forecasts by value cite.
pub mod Values

-- What the contracts over the work space of a build cite.
pub mod Room

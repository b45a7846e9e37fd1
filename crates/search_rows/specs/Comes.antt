-- What a search in work space comes to, of a build and of a product alike.
use Rattle.std.specs.Prelude.{◌≡◌, Bool, true, false}

-- its head and the work space hold the search of the definitions, or it was given up, and that search has more than
-- there is room for
pub record Comes (full : Bool) (Held Over : Type 0) : Type 0 where
  pub held : full ≡ false → Held
  pub over : full ≡ true → Over

-- How far a search in work space is, and within which bounds it goes on, of a build and of a product alike.
use Rattle.std.specs.Prelude.{◌≡◌, List, ℕ, ◌+◌, ◌≤◌, length}

-- how many were taken up, how many reached, and how many arcs there are between them
pub record Progress : Type 0 where
  pub taken : ℕ
  pub reached : ℕ
  pub arcs : ℕ

-- from h and the work space v to r and w the one that is taken up led on: to at most n arcs more, and to no more than
-- there is room for
pub record Grows (room n : ℕ) (h : Progress) (v : List ℕ) (r : Progress) (w : List ℕ) : Type 0 where
  pub taken : r.taken ≡ h.taken
  pub grown : h.reached ≤ r.reached
  pub fits : r.reached ≤ room
  pub few : r.arcs ≤ h.arcs + n
  pub same_length : length w ≡ length v

-- from h and v to r and w some were entered in which paths start: no more than there is room for, and no arc
pub record Widens (room : ℕ) (h : Progress) (v : List ℕ) (r : Progress) (w : List ℕ) : Type 0 where
  pub taken : r.taken ≡ h.taken
  pub arcs : r.arcs ≡ h.arcs
  pub fits : r.reached ≤ room
  pub same_length : length w ≡ length v

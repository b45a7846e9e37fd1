-- How records are compared, part by part.
use Rattle.std.specs.Prelude.{◌≡◌, List, ℕ, zero, suc, ◌+◌, ◌*◌, ◌≤◌, ◌<◌, length, get_or}
use Rattle.search_chains.specs.declared.Shape.{Shape}

-- where part p of a record begins
abbrev pub part_start : Shape → ℕ → ℕ
part_start s zero = 0
part_start s (suc p) = s.head + s.pitch * p

-- how many bytes of it count: the head whole, of any other two and as many more as the second of these tells
abbrev pub part_size : Shape → ℕ → List ℕ → ℕ
part_size s zero w = s.head
part_size s (suc p) w = 2 + get_or w (s.head + s.pitch * p + 1) 0

-- every part has room in the record w
abbrev pub Shaped : Shape → List ℕ → Type 0
Shaped s w = (p : ℕ) → p < s.parts → part_start s p + part_size s p w ≤ length w

-- the bytes xs from place a on are those of the record w wherever they count
abbrev pub Agrees : Shape → ℕ → List ℕ → List ℕ → Type 0
Agrees s a w xs = (p : ℕ) → p < s.parts → (i : ℕ) → part_start s p ≤ i → i < part_start s p + part_size s p w → get_or xs (a + i) 0 ≡ get_or w i 0

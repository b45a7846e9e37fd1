-- The laws of reading, of symbols and of tuples.
use mathlib.Core.Path.{◌≡◌, refl, sym, ◌∙◌, ap, ap₂}
use mathlib.Core.Bool.{Bool, true, false}
use mathlib.Core.List.{List, [], ◌∷◌, map}
use Prim.Native.Nat.{ℕ, zero, suc, ◌-◌, ◌≤◌}
use native.Mathlib.Omega.{arith}
use lib.Dec.{eqb, eqb→eq, leb, leb→le}
use lib.ListN.{length, length-map, get_or, get_or-map}
use Rattle.automata.specs.Lists.{here, there, ◌∈◌, if}
use Rattle.automata.specs.Automaton.{Symbol, Tuple}
use Rattle.automata.specs.TapePair.{read_as, excepted, reading}
use Rattle.automata.specs.Tapes.{empty_tuple, spell, chosen, read_tuple, ReadAlike}
use Rattle.automata.proofs.ListFacts
use Rattle.automata.proofs.TestFacts.{all_∈}

-- ---- symbols

-- each exception is read as a lesser byte
exceptions_le : (e : Symbol × Symbol) → e ∈ read_as → e.1 ≤ e.0
exceptions_le e m = leb→le e.1 e.0 (all_∈ (λ (e : Symbol × Symbol). leb e.1 e.0) read_as e tt m)

-- so no symbol is read as a greater byte
pub reading-le : (c : Symbol) → reading c ≤ c
unfolding reading
reading-le c = go read_as exceptions_le
  where
    go : (es : List (Symbol × Symbol)) → ((e : Symbol × Symbol) → e ∈ es → e.1 ≤ e.0) → excepted es c ≤ c
    go [] h = omega arith
    go (e ∷ es) h = step (eqb c e.0) refl (go es (λ d m. h d (there m)))
      where
        step : (b : Bool) → eqb c e.0 ≡ b → excepted es c ≤ c → if b e.1 (excepted es c) ≤ c
        step true p r =
            let q : c ≡ e.0 = eqb→eq c e.0 (rw p tt) in
            let k = h e (here refl) in
            omega arith
        step false p r = r

-- ---- tuples

-- a string of a tuple that is read
pub read_at : (t : Tuple) (k : ℕ) → get_or (read_tuple t) k [] ≡ map reading (get_or t k [])
read_at t k = get_or-map (map reading) t k []

-- reading goes tape by tape: it keeps empty tuples, spelling, and the tapes that are chosen
pub read_blank : (n : ℕ) → read_tuple (empty_tuple n) ≡ empty_tuple n
read_blank zero = refl
read_blank (suc n) = ap {B = Tuple} (λ r. [] ∷ r) (read_blank n)

pub read_spell : (l t : Tuple) → read_tuple (spell l t) ≡ spell (read_tuple l) (read_tuple t)
read_spell [] t = refl
read_spell (x ∷ l) [] = refl
read_spell (x ∷ l) (s ∷ t) = ap₂ (λ z zs. z ∷ zs) (ListFacts.map_append reading x s) (read_spell l t)

pub read_chosen : (js : List ℕ) (t : Tuple) → read_tuple (chosen js t) ≡ chosen js (read_tuple t)
read_chosen [] t = refl
read_chosen (j ∷ js) t = ap₂ {C = Tuple} (λ x xs. x ∷ xs) (sym (read_at t (j - 1))) (read_chosen js t)

-- as many tapes, each as long
pub read_length : (t : Tuple) → length (read_tuple t) ≡ length t
read_length t = length-map t (map reading)

pub read_short : (n : ℕ) (t : Tuple) → ((i : ℕ) → length (get_or t i []) ≤ n) → (i : ℕ) → length (get_or (read_tuple t) i []) ≤ n
read_short n t h i = rw (read_at t i, length-map (get_or t i []) reading) (h i)

-- tuples that fall together have as many tapes, and agree with each other tape by tape
pub alike_length : (s t : Tuple) → ReadAlike s t → length s ≡ length t
alike_length s t e = sym (read_length s) ∙ ap length e ∙ read_length t

pub alike_at : (s t : Tuple) → ReadAlike s t → (k : ℕ) → map reading (get_or s k []) ≡ map reading (get_or t k [])
alike_at s t e k = sym (read_at s k) ∙ ap (λ z. get_or z k []) e ∙ read_at t k

-- chosen tapes of tuples that fall together do
pub chosen_alike : (js : List ℕ) (s t : Tuple) → ReadAlike s t → ReadAlike (chosen js s) (chosen js t)
chosen_alike js s t e = read_chosen js s ∙ ap (chosen js) e ∙ sym (read_chosen js t)

-- A ring as links: for each row the row before it and the row behind it, and its bit.
-- One place more, at the limit, stands just before the hand, and closes the ring.
use Rattle.std.specs.Prelude.{◌≡◌, ℕ, zero, suc, ◌+◌, ◌<◌, ◌≤◌, Bool, true, false, eqb, cond, List, [], ◌∷◌, length, get_or}
use Rattle.std.specs.Coded.{Coded-set, coded_ℕ, coded_bool, le_prop}
use Rattle.jc_ring.specs.Ring.{rows_apart}

-- the rows and bits from a place on, up to the place that closes the ring, and at most so many
abbrev pub walk : List ℕ → List Bool → ℕ → ℕ → ℕ → List (ℕ × Bool)
walk next used limit zero at = []
walk next used limit (suc left) at =
    cond (eqb at limit) [] ((at, get_or used at false) ∷ walk next used limit left (get_or next at 0))

-- the ring that the links make
abbrev pub linked_list : List ℕ → List Bool → ℕ → List (ℕ × Bool)
linked_list next used limit = walk next used limit limit (get_or next limit 0)

-- b stands just behind a
abbrev pub Meets : List ℕ → List ℕ → ℕ → ℕ → Type 0
Meets next previous a b = (get_or next a 0 ≡ b) × (get_or previous b 0 ≡ a)

-- the links lead from one place, over these rows with these bits, to another place
abbrev pub Leads : List ℕ → List ℕ → List Bool → ℕ → ℕ → ℕ → List (ℕ × Bool) → Type 0
Leads next previous used limit from to [] = Meets next previous from to
Leads next previous used limit from to (p ∷ ps) =
    Meets next previous from p.0 × (get_or used p.0 false ≡ p.1) × (p.0 < limit) × Leads next previous used limit p.0 to ps

-- the links make this ring
pub record IsLinked (next previous : List ℕ) (used : List Bool) (limit : ℕ) (ps : List (ℕ × Bool)) : Type 0 where
  pub next_size : length next ≡ limit + 1
  pub previous_size : length previous ≡ limit + 1
  pub used_size : length used ≡ limit + 1
  pub leads : Leads next previous used limit limit limit ps
  pub apart : rows_apart ps ≡ true
  pub fits : length ps ≤ limit

-- the links make the ring that is read off them
abbrev pub AreLinks : List ℕ → List ℕ → List Bool → ℕ → Type 0
AreLinks next previous used limit = IsLinked next previous used limit (linked_list next used limit)

Leads-prop : (next previous : List ℕ) (used : List Bool) (limit from to : ℕ) (ps : List (ℕ × Bool)) → IsProp (Leads next previous used limit from to ps)
Leads-prop next previous used limit from to [] = hlevel (Coded-set coded_ℕ)
Leads-prop next previous used limit from to (p ∷ ps) =
    hlevel (Coded-set coded_ℕ, Coded-set coded_bool, le_prop, Leads-prop next previous used limit p.0 to ps)

pub AreLinks-prop : (next previous : List ℕ) (used : List Bool) (limit : ℕ) → IsProp (AreLinks next previous used limit)
AreLinks-prop next previous used limit =
    hlevel (Coded-set coded_ℕ, Coded-set coded_bool, le_prop, Leads-prop next previous used limit limit limit (linked_list next used limit))

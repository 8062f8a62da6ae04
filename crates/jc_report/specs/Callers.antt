-- The entries that each caller has left: a session on a cache.
use Rattle.std.specs.Prelude.{◌≡◌, ℕ, ◌==◌, ◌&&◌, if◌then◌else◌, Bool, List, [], ◌∷◌, ◌++◌, Option, Some, None}
use Rattle.std.specs.List.{filter}
use Rattle.std.specs.HashMap.{HashMap, get}
use Rattle.jc_model.specs.declared.event.Entry.{Entry}
use Rattle.jc_report.specs.Lines.{is_by}

-- the same cache and the same session
abbrev pub caller_eq : ℕ × ℕ → ℕ × ℕ → Bool
caller_eq x y = (x.0 == y.0) && (x.1 == y.1)

-- a caller that has no list has no entries
abbrev pub entries_in : Option (List Entry) → List Entry
entries_in None = []
entries_in (Some entries) = entries

module _ {S : Type 0} where
  -- the entries that a caller has left
  abbrev pub entries_by : ℕ → ℕ → HashMap (ℕ × ℕ) (List Entry) S → List Entry
  entries_by id session callers = entries_in (get caller_eq callers (id, session))

  -- one caller's are changed so, and no other's
  abbrev pub ChangesOwn : (List Entry → List Entry) → ℕ → ℕ → HashMap (ℕ × ℕ) (List Entry) S → HashMap (ℕ × ℕ) (List Entry) S → Type 0
  ChangesOwn f id session old new =
      (i s : ℕ) → entries_by i s new ≡ (if caller_eq (id, session) (i, s) then f (entries_by i s old) else entries_by i s old)

  -- one comes behind those of a caller
  abbrev pub AddsCallersEntry : Entry → ℕ → ℕ → HashMap (ℕ × ℕ) (List Entry) S → HashMap (ℕ × ℕ) (List Entry) S → Type 0
  AddsCallersEntry e id session old new = ChangesOwn (λ entries. entries ++ e ∷ []) id session old new

-- each caller has its own of these entries left
abbrev pub AreLeft : {S : Type 0} → HashMap (ℕ × ℕ) (List Entry) S → List Entry → Type 0
AreLeft callers entries = (id session : ℕ) → entries_by id session callers ≡ filter (is_by id session) entries

-- The rule of a roll, and what each step tells.
use Rattle.std.specs.Prelude.{◌≡◌, ℕ, true, false, List, [], ◌∷◌, ◌++◌}
use mathlib.Core.Option.{some}
use mathlib.Core.List.{IsPrefix}
use lib.ListN.{get_elem?}
use Rattle.atomic_table.specs.Table.{State, Me, Step}
use Rattle.atomic_table.specs.declared.shared.Seat.{Seat}
use Rattle.jc_index.specs.declared.roll.Known.{Known}

module _ {T : Type 0} where
  abbrev pub KnowsItems : List T → ℕ → ℕ → Known T → Type 0
  KnowsItems items keeper j v = IsPrefix v.items items × IsPrefix v.told items × (v.keeps ≡ true → (j ≡ keeper) × (v.items ≡ items))

  abbrev pub first_known : Known T
  first_known = record { keeps = true; items = []; told = [] }

  abbrev pub follower_known : Known T → Known T
  follower_known v = record { keeps = false; items = v.items; told = [] }

  abbrev pub joined_known : Known T → Known T → Known T
  joined_known v w = record v { told = w.items }

  abbrev pub nobody_known : Known T
  nobody_known = record { keeps = false; items = []; told = [] }

  abbrev pub AddStep : Step T → Me T (Known T) → ℕ → Me T (Known T) → Type 0
  AddStep st m n m' = m.0.keeps ≡ true → (x : T) → st.said ≡ some x → m' ≡ (record m.0 { items = m.0.items ++ x ∷ [] }, m.1)

  abbrev pub RecallItemsStep : Step T → Me T (Known T) → ℕ → Me T (Known T) → Type 0
  RecallItemsStep st m n m' = m.0.keeps ≡ true → (m' ≡ m) × IsPrefix m.0.told m.0.items

-- there is one list, of which the keeper knows all and each other seat a beginning
pub record RollRule {T : Type 0} (s : State T (Known T)) : Type 0 where
  pub items : List T
  pub keeper : ℕ
  pub each_seat : (j : ℕ) (v : Known T) → get_elem? s.views j ≡ some v → KnowsItems items keeper j v

-- two seats know the same items of one list
abbrev pub KnowsSameItems : {T : Type 0} → Seat T (Known T) → Seat T (Known T) → Type 0
KnowsSameItems old new = (new.table_id ≡ old.table_id) × (new.me.0.items ≡ old.me.0.items)

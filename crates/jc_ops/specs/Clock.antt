-- CLOCK: which row makes room.
use Rattle.std.specs.Prelude.{◌≡◌, ◌⊎◌, ℕ, true, false, List, [], ◌∷◌, ◌++◌, map}
use Rattle.jc_model.specs.declared.config.CacheConfig.{CacheConfig}
use Rattle.jc_model.specs.State.{Item, is_live, passed}
use Rattle.jc_model.specs.Changes.{Progress, with_ring, evicted, make_room}

-- all are live, and were used since the hand last passed
abbrev pub AreInUse : ℕ → List Item → Type 0
AreInUse now [] = Unit {0}
AreInUse now (x ∷ xs) = (is_live now x ≡ true) × (x.used ≡ true) × AreInUse now xs

-- The first row that is expired or was not used goes. The rows before it go last, as passed.
abbrev pub FirstUnusedGoes : Type 0
FirstUnusedGoes = (c : CacheConfig) (now : ℕ) (p : Progress) (before : List Item) (x : Item) (after : List Item)
    → p.state.ring ≡ before ++ x ∷ after → AreInUse now before → (is_live now x ≡ false) ⊎ (x.used ≡ false)
    → make_room c now p ≡ evicted c now x (with_ring (after ++ map passed before) p)

-- Where there is none, the first row goes, and the others stay in their order, as passed.
abbrev pub ElseFirstGoes : Type 0
ElseFirstGoes = (c : CacheConfig) (now : ℕ) (p : Progress) (x : Item) (rest : List Item)
    → p.state.ring ≡ x ∷ rest → AreInUse now (x ∷ rest)
    → make_room c now p ≡ evicted c now (passed x) (with_ring (map passed rest) p)

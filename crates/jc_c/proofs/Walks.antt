-- What a step covers, and what a walk gives.
use Rattle.std.proofs.Common.{◌≡◌, ◌<◌, ◌≤◌, ℕ, ◌-◌, Bool, true, false, ltb, cond, if◌then◌else◌, is_some, List, [], ◌∷◌, Option, Some, None, inl, inr, refl, sym, ap, subst, ◌∙◌, arith}
use Rattle.std.proofs.lemmas.Bool.{cases_lt}
use Rattle.jc_engine.specs.Caches.{Cache, row_in}
use Rattle.jc_c.specs.Walk.{AlwaysThere, Covers, IsWalk, Numbered, WalkCovers, fitting, given, number_behind, row_length, rows_from, short, times_given, walked, walked_by}
use Rattle.jc_c.proofs.Covering.{covers, low, none_left}

pub walk_covers : (room : ℕ) (cache : Option Cache) (from : ℕ) → WalkCovers cache from (walked room cache from)
walk_covers room None from = tt
walk_covers room (Some k) from = by (rows_from (Some k) from (k.config.capacity - from)) refl
  where
    by : (l : List Numbered) → rows_from (Some k) from (k.config.capacity - from) ≡ l → WalkCovers (Some k) from (walked_by room l)
    by [] is = λ n least less. none_left (Some k) (k.config.capacity - from) from n least (omega (arith, least, less)) is
    by (p ∷ ps) is = split (ltb room (row_length p.1))
      where
        split : (b : Bool) → WalkCovers (Some k) from (if b then short (row_length p.1) else given (fitting room (p ∷ ps)))
        split true = tt
        split false = subst (λ (l : List Numbered). Covers (Some k) from (fitting room l)) is (covers (Some k) (k.config.capacity - from) room from)

-- a step gives rows of numbers from its first on
onward : (room : ℕ) (k : Cache) (from : ℕ) (rows : List Numbered) → walked room (Some k) from ≡ given rows → from ≤ number_behind from rows
onward room k from rows is = by (rows_from (Some k) from (k.config.capacity - from)) refl is
  where
    from_given : (xs ys : List Numbered) → given xs ≡ given ys → xs ≡ ys
    from_given xs ys e = cc

    by : (l : List Numbered) → rows_from (Some k) from (k.config.capacity - from) ≡ l → walked_by room l ≡ given rows → from ≤ number_behind from rows
    by [] at e = absurd cc
    by (p ∷ ps) at e = split (ltb room (row_length p.1)) e
      where
        split : (b : Bool) → (if b then short (row_length p.1) else given (fitting room (p ∷ ps))) ≡ given rows → from ≤ number_behind from rows
        split true e = absurd cc
        split false e =
            let same : fitting room (rows_from (Some k) from (k.config.capacity - from)) ≡ rows = ap (fitting room) at ∙ from_given (fitting room (p ∷ ps)) rows e in
            subst (λ (l : List Numbered). from ≤ number_behind from l) same (low (Some k) (k.config.capacity - from) room from)

covered : (room : ℕ) (k : Cache) (from : ℕ) (rows : List Numbered) → walked room (Some k) from ≡ given rows → Covers (Some k) from rows
covered room k from rows is = subst (WalkCovers (Some k) from) is (walk_covers room (Some k) from)

never_before : (from n : ℕ) (steps : List (ℕ × Cache)) (lists : List (List Numbered)) → n < from → IsWalk from steps lists → times_given n lists ≡ 0
never_before from n [] lists less is = absurd is
never_before from n (step ∷ []) [] less is = refl
never_before from n (step ∷ next ∷ steps) [] less is = refl
never_before from n (step ∷ steps) (rows ∷ lists) less is =
    let here = (covered step.0 step.1 from rows is.0).none_before n less in
    let more = onward step.0 step.1 from rows is.0 in
    let rest = never_before (number_behind from rows) n steps lists (omega (arith, less, more)) is.1 in
    omega (arith, here, rest)

once : (b : Bool) → b ≡ true → ◌≡◌ {A = ℕ} (cond b 1 0) 1
once true is = refl
once false is = absurd cc

pub given_once : (from n : ℕ) (steps : List (ℕ × Cache)) (lists : List (List Numbered)) → from ≤ n → IsWalk from steps lists → AlwaysThere n steps → times_given n lists ≡ 1
given_once from n [] lists least is always = absurd is
given_once from n (step ∷ []) [] least is always =
    let none = (subst (WalkCovers (Some step.1) from) is (walk_covers step.0 (Some step.1) from)) n least always.0 in
    let no = sym always.1 ∙ ap is_some none in absurd cc
given_once from n (step ∷ next ∷ steps) [] least is always = absurd is
given_once from n (step ∷ steps) (rows ∷ lists) least is always =
    let c = covered step.0 step.1 from rows is.0 in
    elim (cases_lt n (number_behind from rows)) [
      | inl less ↦ (let here = c.each n least less in let rest = never_before (number_behind from rows) n steps lists less is.1 in let one = once (is_some (row_in n (Some step.1))) always.1 in omega (arith, here, one, rest))
      | inr over ↦ (let here = c.none_behind n over in let rest = given_once (number_behind from rows) n steps lists over is.1 always.2 in omega (arith, here, rest))
    ]

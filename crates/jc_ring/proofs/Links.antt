-- What a change of the links makes of the ring.
use Rattle.std.proofs.Common.{◌≡◌, ◌<◌, ◌≤◌, ◌+◌, ℕ, zero, suc, Bool, true, false, eqb, not, cond, ◌||◌, ◌⊎◌, List, [], ◌∷◌, ◌++◌, length, get_or, Option, Some, None, option_map, refl, sym, ap, subst, ◌∙◌, arith, inl, inr}
use Rattle.std.proofs.Math.ListN.{set}
use Rattle.std.proofs.lemmas.List.{get_or-set_same, get_or-set_other}
use Rattle.std.proofs.lemmas.Grind.{common_steps}
use Rattle.std.proofs.lemmas.Bool.{eq-eqb, ne_eqb, eqb-true, eqb-false, and_parts, or_parts, or_left, or_right, or_cases, not-true, false_from_ne_true, both_ways, cases_Bool}
use Rattle.jc_ring.specs.Ring.{on_ring, bit_of, first, row_behind, ring_without, ring_turned, ring_touched, rows_apart}
use Rattle.jc_ring.specs.Links.{walk, Meets, Leads}
use Rattle.jc_ring.proofs.Laws.{without-off}

-- What is on a ring and what is not.

off_head : (p : ℕ × Bool) (ps : List (ℕ × Bool)) (r : ℕ) → on_ring r (p ∷ ps) ≡ false → p.0 ≡ r → ⊥
off_head p ps r off = eqb-false p.0 r (or_parts (eqb p.0 r) (on_ring r ps) off).0

off_tail : (p : ℕ × Bool) (ps : List (ℕ × Bool)) (r : ℕ) → on_ring r (p ∷ ps) ≡ false → on_ring r ps ≡ false
off_tail p ps r off = (or_parts (eqb p.0 r) (on_ring r ps) off).1

apart_head : (p : ℕ × Bool) (ps : List (ℕ × Bool)) → rows_apart (p ∷ ps) ≡ true → on_ring p.0 ps ≡ false
apart_head p ps apart = not-true (on_ring p.0 ps) (and_parts (not (on_ring p.0 ps)) (rows_apart ps) apart).0

apart_tail : (p : ℕ × Bool) (ps : List (ℕ × Bool)) → rows_apart (p ∷ ps) ≡ true → rows_apart ps ≡ true
apart_tail p ps apart = (and_parts (not (on_ring p.0 ps)) (rows_apart ps) apart).1

-- a row off the ring is no row on it
off_on : (ps : List (ℕ × Bool)) (r s : ℕ) → on_ring r ps ≡ false → on_ring s ps ≡ true → r ≡ s → ⊥
off_on ps r s off on e = both_ways (on_ring r ps) off (rw e on)

without_here : (p : ℕ × Bool) (ps : List (ℕ × Bool)) (r : ℕ) → p.0 ≡ r → rows_apart (p ∷ ps) ≡ true → ring_without r (p ∷ ps) ≡ ps
without_here p ps r same apart =
    grind (arith, common_steps, eq-eqb p.0 r same, without-off ps r (subst (λ s. on_ring s ps ≡ false) same (apart_head p ps apart)))

without_later : (p : ℕ × Bool) (ps : List (ℕ × Bool)) (r : ℕ) → eqb p.0 r ≡ false → ring_without r (p ∷ ps) ≡ p ∷ ring_without r ps
without_later p ps r other = grind (arith, common_steps, other)

module _ (next previous : List ℕ) (used : List Bool) (limit : ℕ) where
  -- Where links lead.

  pub on_below : (ps : List (ℕ × Bool)) (from to r : ℕ) → Leads next previous used limit from to ps → on_ring r ps ≡ true → r < limit
  on_below [] from to r leads on = cc
  on_below (p ∷ ps) from to r leads on = elim (or_cases (eqb p.0 r) (on_ring r ps) on) [
    | inl here ↦ subst (λ s. s < limit) (eqb-true p.0 r here) leads.2
    | inr later ↦ on_below ps p.0 to r leads.3 later
  ]

  -- the place before a row is where the links come from, or a row
  pub previous_on : (ps : List (ℕ × Bool)) (from to r : ℕ) (b : Bool) → Leads next previous used limit from to ps → on_ring r ps ≡ true → on_ring (get_or previous r 0) ((from, b) ∷ ps) ≡ true
  previous_on [] from to r b leads on = cc
  previous_on (p ∷ ps) from to r b leads on = elim (or_cases (eqb p.0 r) (on_ring r ps) on) [
    | inl here ↦ or_left (eqb from (get_or previous r 0)) (on_ring (get_or previous r 0) (p ∷ ps)) (eq-eqb from (get_or previous r 0) (sym (ap (λ s. get_or previous s 0) (sym (eqb-true p.0 r here)) ∙ leads.0.1)))
    | inr later ↦ or_right (eqb from (get_or previous r 0)) (on_ring (get_or previous r 0) (p ∷ ps)) (previous_on ps p.0 to r p.1 leads.3 later)
  ]

  -- so is the place before where the links lead to
  pub last_on : (ps : List (ℕ × Bool)) (from to : ℕ) (b : Bool) → Leads next previous used limit from to ps → on_ring (get_or previous to 0) ((from, b) ∷ ps) ≡ true
  last_on [] from to b leads = or_left (eqb from (get_or previous to 0)) false (eq-eqb from (get_or previous to 0) (sym leads.1))
  last_on (p ∷ ps) from to b leads = or_right (eqb from (get_or previous to 0)) (on_ring (get_or previous to 0) (p ∷ ps)) (last_on ps p.0 to p.1 leads.3)

  -- the first place is where the links lead to, or a row
  first_on : (ps : List (ℕ × Bool)) (from to : ℕ) → Leads next previous used limit from to ps → (on_ring (get_or next from 0) ps ≡ true) ⊎ (get_or next from 0 ≡ to)
  first_on [] from to leads = inr leads.0
  first_on (p ∷ ps) from to leads = inl (or_left (eqb p.0 (get_or next from 0)) (on_ring (get_or next from 0) ps) (eq-eqb p.0 (get_or next from 0) (sym leads.0.0)))

  -- so is the place behind a row
  pub next_on : (ps : List (ℕ × Bool)) (from to r : ℕ) → Leads next previous used limit from to ps → on_ring r ps ≡ true → (on_ring (get_or next r 0) ps ≡ true) ⊎ (get_or next r 0 ≡ to)
  next_on [] from to r leads on = cc
  next_on (p ∷ ps) from to r leads on = elim (or_cases (eqb p.0 r) (on_ring r ps) on) [
    | inl here ↦ wider p ps to r (subst (λ s. (on_ring (get_or next s 0) ps ≡ true) ⊎ (get_or next s 0 ≡ to)) (eqb-true p.0 r here) (first_on ps p.0 to leads.3))
    | inr later ↦ wider p ps to r (next_on ps p.0 to r leads.3 later)
  ]
    where
      wider : (p : ℕ × Bool) (ps : List (ℕ × Bool)) (to r : ℕ) → (on_ring (get_or next r 0) ps ≡ true) ⊎ (get_or next r 0 ≡ to) → (on_ring (get_or next r 0) (p ∷ ps) ≡ true) ⊎ (get_or next r 0 ≡ to)
      wider p ps to r (inl on) = inl (or_right (eqb p.0 (get_or next r 0)) (on_ring (get_or next r 0) ps) on)
      wider p ps to r (inr end) = inr end

  pub limit_off : (ps : List (ℕ × Bool)) (from to : ℕ) → Leads next previous used limit from to ps → on_ring limit ps ≡ false
  limit_off ps from to leads = false_from_ne_true (on_ring limit ps) (λ on. absurd (omega (arith, on_below ps from to limit leads on)))

  -- Changes elsewhere.

  pub frame : (ps : List (ℕ × Bool)) (from to x v y w : ℕ) → (from ≡ x → ⊥) → on_ring x ps ≡ false → (to ≡ y → ⊥) → on_ring y ps ≡ false → Leads next previous used limit from to ps → Leads (set next x v) (set previous y w) used limit from to ps
  frame [] from to x v y w from_x off_x to_y off_y leads =
      (get_or-set_other next x from v 0 from_x ∙ leads.0, get_or-set_other previous y to w 0 to_y ∙ leads.1)
  frame (p ∷ ps) from to x v y w from_x off_x to_y off_y leads =
      ((get_or-set_other next x from v 0 from_x ∙ leads.0.0, get_or-set_other previous y p.0 w 0 (off_head p ps y off_y) ∙ leads.0.1), leads.1, leads.2, frame ps p.0 to x v y w (off_head p ps x off_x) (off_tail p ps x off_x) to_y (off_tail p ps y off_y) leads.3)

  pub frame_used : (ps : List (ℕ × Bool)) (from to x : ℕ) (b : Bool) → on_ring x ps ≡ false → Leads next previous used limit from to ps → Leads next previous (set used x b) limit from to ps
  frame_used [] from to x b off leads = leads
  frame_used (p ∷ ps) from to x b off leads =
      (leads.0, get_or-set_other used x p.0 b false (off_head p ps x off) ∙ leads.1, leads.2, frame_used ps p.0 to x b (off_tail p ps x off) leads.3)

  -- Changes here.

  -- one row more
  pub snoc : (ps : List (ℕ × Bool)) (from to r : ℕ) (b : Bool) → Leads next previous used limit from r ps → get_or used r false ≡ b → r < limit → Meets next previous r to → Leads next previous used limit from to (ps ++ (r, b) ∷ [])
  snoc [] from to r b leads bit below meets = (leads, bit, below, meets)
  snoc (p ∷ ps) from to r b leads bit below meets = (leads.0, leads.1, leads.2, snoc ps p.0 to r b leads.3 bit below meets)

  -- the last link leads elsewhere
  pub redirect : (ps : List (ℕ × Bool)) (from to c : ℕ) → length next ≡ limit + 1 → from ≤ limit → c < length previous → on_ring from ps ≡ false → on_ring c ps ≡ false → rows_apart ps ≡ true → Leads next previous used limit from to ps → Leads (set next (get_or previous to 0) c) (set previous c (get_or previous to 0)) used limit from c ps
  redirect [] from to c size low_from low_c off_from off_c apart leads =
      rw leads.1 (get_or-set_same next from c 0 (omega arith), get_or-set_same previous c from 0 low_c)
  redirect (p ∷ ps) from to c size low_from low_c off_from off_c apart leads =
      let last : on_ring (get_or previous to 0) (p ∷ ps) ≡ true = last_on ps p.0 to p.1 leads.3 in
      ((get_or-set_other next (get_or previous to 0) from c 0 (off_on (p ∷ ps) from (get_or previous to 0) off_from last) ∙ leads.0.0, get_or-set_other previous c p.0 (get_or previous to 0) 0 (off_head p ps c off_c) ∙ leads.0.1), leads.1, leads.2, redirect ps p.0 to c size (omega (arith, leads.2)) low_c (apart_head p ps apart) (off_tail p ps c off_c) (apart_tail p ps apart) leads.3)

  -- the first link comes from elsewhere
  skip : (ps : List (ℕ × Bool)) (from at to c : ℕ) → length next ≡ limit + 1 → length previous ≡ limit + 1 → from ≤ limit → to ≤ limit → on_ring from ps ≡ false → on_ring to ps ≡ false → rows_apart ps ≡ true → Leads next previous used limit at to ps → get_or next at 0 ≡ c → Leads (set next from c) (set previous c from) used limit from to ps
  skip [] from at to c next_size previous_size low_from low_to off_from off_to apart leads is =
      rw (sym is ∙ leads.0) (get_or-set_same next from to 0 (omega arith), get_or-set_same previous to from 0 (omega arith))
  skip (p ∷ ps) from at to c next_size previous_size low_from low_to off_from off_to apart leads is =
      subst (λ d. Leads (set next from d) (set previous d from) used limit from to (p ∷ ps)) (sym leads.0.0 ∙ is) ((get_or-set_same next from p.0 0 (omega arith), get_or-set_same previous p.0 from 0 (omega (arith, leads.2))), leads.1, leads.2, frame ps p.0 to from p.0 p.0 from (off_head p ps from off_from) (off_tail p ps from off_from) (λ e. off_head p ps to off_to (sym e)) (apart_head p ps apart) leads.3)

  -- one row less
  pub unlinked : (ps : List (ℕ × Bool)) (from to r : ℕ) → length next ≡ limit + 1 → length previous ≡ limit + 1 → from ≤ limit → to ≤ limit → on_ring from ps ≡ false → on_ring to ps ≡ false → rows_apart ps ≡ true → on_ring r ps ≡ true → Leads next previous used limit from to ps → Leads (set next (get_or previous r 0) (get_or next r 0)) (set previous (get_or next r 0) (get_or previous r 0)) used limit from to (ring_without r ps)
  unlinked [] from to r next_size previous_size low_from low_to off_from off_to apart on leads = cc
  unlinked (p ∷ ps) from to r next_size previous_size low_from low_to off_from off_to apart on leads = elim (cases_Bool (eqb p.0 r)) [
    | inl here ↦
        (let same = eqb-true p.0 r here in
        let kept : ring_without r (p ∷ ps) ≡ ps = without_here p ps r same apart in
        let came : get_or previous r 0 ≡ from = ap (λ s. get_or previous s 0) (sym same) ∙ leads.0.1 in
        let skipped = skip ps from p.0 to (get_or next r 0) next_size previous_size low_from low_to (off_tail p ps from off_from) (off_tail p ps to off_to) (apart_tail p ps apart) leads.3 (ap (λ s. get_or next s 0) same) in
        subst (λ qs. Leads (set next (get_or previous r 0) (get_or next r 0)) (set previous (get_or next r 0) (get_or previous r 0)) used limit from to qs) (sym kept) (subst (λ a. Leads (set next a (get_or next r 0)) (set previous (get_or next r 0) a) used limit from to ps) (sym came) skipped))
    | inr other ↦
        (let kept : ring_without r (p ∷ ps) ≡ p ∷ ring_without r ps = without_later p ps r other in
        let later : on_ring r ps ≡ true = on_later p ps r other on in
        let before : on_ring (get_or previous r 0) (p ∷ ps) ≡ true = previous_on ps p.0 to r p.1 leads.3 later in
        let behind : p.0 ≡ get_or next r 0 → ⊥ = not_behind p ps to (get_or next r 0) off_to apart (next_on ps p.0 to r leads.3 later) in
        let rest = unlinked ps p.0 to r next_size previous_size (omega (arith, leads.2)) low_to (apart_head p ps apart) (off_tail p ps to off_to) (apart_tail p ps apart) later leads.3 in
        subst (λ qs. Leads (set next (get_or previous r 0) (get_or next r 0)) (set previous (get_or next r 0) (get_or previous r 0)) used limit from to qs) (sym kept)
        ((get_or-set_other next (get_or previous r 0) from (get_or next r 0) 0 (off_on (p ∷ ps) from (get_or previous r 0) off_from before) ∙ leads.0.0, get_or-set_other previous (get_or next r 0) p.0 (get_or previous r 0) 0 behind ∙ leads.0.1), leads.1, leads.2, rest))
  ]
    where
      on_later : (p : ℕ × Bool) (ps : List (ℕ × Bool)) (r : ℕ) → eqb p.0 r ≡ false → on_ring r (p ∷ ps) ≡ true → on_ring r ps ≡ true
      on_later p ps r other on = ap (λ b. b || on_ring r ps) (sym other) ∙ on

      not_behind : (p : ℕ × Bool) (ps : List (ℕ × Bool)) (to s : ℕ) → on_ring to (p ∷ ps) ≡ false → rows_apart (p ∷ ps) ≡ true → (on_ring s ps ≡ true) ⊎ (s ≡ to) → p.0 ≡ s → ⊥
      not_behind p ps to s off apart (inl on) same = off_on ps p.0 s (apart_head p ps apart) on same
      not_behind p ps to s off apart (inr end) same = off_head p ps to off (same ∙ end)

  -- a row used
  pub touched_bit : (ps : List (ℕ × Bool)) (from to r : ℕ) → length used ≡ limit + 1 → Leads next previous used limit from to ps → Leads next previous (set used r true) limit from to (ring_touched r ps)
  touched_bit [] from to r size leads = leads
  touched_bit (p ∷ ps) from to r size leads = (leads.0, bit p leads.1 leads.2, leads.2, touched_bit ps p.0 to r size leads.3)
    where
      bit : (p : ℕ × Bool) → get_or used p.0 false ≡ p.1 → p.0 < limit → get_or (set used r true) p.0 false ≡ cond (eqb p.0 r) true p.1
      bit p is below = elim (cases_Bool (eqb p.0 r)) [
        | inl here ↦ rw (here, eqb-true p.0 r here) (get_or-set_same used r true false (subst (λ s. s < length used) (eqb-true p.0 r here) (omega arith)))
        | inr other ↦ rw other (get_or-set_other used r p.0 true false (eqb-false p.0 r other) ∙ is)
      ]

  -- the bit of a row
  pub used-is : (ps : List (ℕ × Bool)) (from to r : ℕ) → Leads next previous used limit from to ps → on_ring r ps ≡ true → get_or used r false ≡ bit_of r ps
  used-is [] from to r leads on = cc
  used-is (p ∷ ps) from to r leads on = elim (cases_Bool (eqb p.0 r)) [
    | inl here ↦ rw here (ap (λ s. get_or used s false) (sym (eqb-true p.0 r here)) ∙ leads.1)
    | inr other ↦ rw other (used-is ps p.0 to r leads.3 (rw other at on))
  ]

  -- What is read off the links.

  pub walk-is : (ps : List (ℕ × Bool)) (from left : ℕ) → length ps ≤ left → Leads next previous used limit from limit ps → walk next used limit left (get_or next from 0) ≡ ps
  walk-is [] from zero fits leads = refl
  walk-is [] from (suc left) fits leads =
      rw leads.0 (ap (λ b. cond b [] ((limit, get_or used limit false) ∷ walk next used limit left (get_or next limit 0))) (eq-eqb limit limit refl))
  walk-is (p ∷ ps) from zero fits leads = absurd (omega arith)
  walk-is (p ∷ ps) from (suc left) fits leads =
      rw leads.0.0 (ap (λ b. cond b [] ((p.0, get_or used p.0 false) ∷ walk next used limit left (get_or next p.0 0))) (ne_eqb p.0 limit (λ e. absurd (omega (arith, leads.2)))) ∙ ap (λ (b : Bool). (p.0, b) ∷ walk next used limit left (get_or next p.0 0)) leads.1 ∙ ap (λ qs. p ∷ qs) (walk-is ps p.0 left (omega arith) leads.3))

  -- a place as a row, or as the end
  abbrev pub row_or_end : ℕ → Option ℕ
  row_or_end at = cond (eqb at limit) None (Some at)

  first-is : (ps : List (ℕ × Bool)) (from : ℕ) → Leads next previous used limit from limit ps → option_map (λ q. q.0) (first ps) ≡ row_or_end (get_or next from 0)
  first-is [] from leads = rw leads.0 (sym (ap (λ b. cond b None (Some limit)) (eq-eqb limit limit refl)))
  first-is (p ∷ ps) from leads = rw leads.0.0 (sym (ap (λ b. cond b None (Some p.0)) (ne_eqb p.0 limit (λ e. absurd (omega (arith, leads.2))))))

  pub after-is : (ps : List (ℕ × Bool)) (from r : ℕ) → on_ring r ps ≡ true → Leads next previous used limit from limit ps → row_behind r ps ≡ row_or_end (get_or next r 0)
  after-is [] from r on leads = cc
  after-is (p ∷ ps) from r on leads = elim (cases_Bool (eqb p.0 r)) [
    | inl here ↦ rw here (first-is ps p.0 leads.3 ∙ ap (λ s. row_or_end (get_or next s 0)) (eqb-true p.0 r here))
    | inr other ↦ rw other (after-is ps p.0 r (ap (λ b. b || on_ring r ps) (sym other) ∙ on) leads.3)
  ]

  -- the first row goes last
  pub turned-is : (ps : List (ℕ × Bool)) (from to r : ℕ) → rows_apart ps ≡ true → Leads next previous used limit from to ps → 0 < length ps → r ≡ get_or next from 0 → ring_without r ps ++ (r, false) ∷ [] ≡ ring_turned ps
  turned-is [] from to r apart leads more is = absurd (omega arith)
  turned-is (p ∷ ps) from to r apart leads more is =
      let same : r ≡ p.0 = is ∙ leads.0.0 in
      ap (λ qs. qs ++ (r, false) ∷ []) (without_here p ps r (sym same) apart) ∙ ap (λ s. ps ++ (s, false) ∷ []) same

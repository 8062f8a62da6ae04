-- The ring that links make, before and after a change.
use Rattle.std.proofs.Common.{◌≡◌, ◌<◌, ◌≤◌, ◌+◌, ℕ, Bool, true, false, eqb, cond, List, [], ◌∷◌, ◌++◌, length, get_or, Some, None, sym, ap, subst, ◌∙◌, arith, inl, inr}
use Rattle.std.proofs.Math.ListN.{set}
use Rattle.std.proofs.lemmas.List.{get_or-set_same, length-set, length_push, get_or_read}
use Rattle.std.proofs.lemmas.Bool.{eq-eqb, ne_eqb, or_cases, eqb-true}
use Rattle.jc_ring.specs.Ring.{on_ring, bit_of, row_behind, ring_without, ring_turned, ring_touched}
use Rattle.jc_ring.specs.Links.{linked_list, IsLinked, AreLinks}
use Rattle.jc_ring.proofs.Laws.{apart-push, apart-touched, apart-without, length-touched, length-without}
use Rattle.jc_ring.proofs.Links.{on_below, previous_on, last_on, next_on, limit_off, frame, frame_used, snoc, redirect, unlinked, touched_bit, used-is, walk-is, after-is, turned-is}

module _ {next previous : List ℕ} {used : List Bool} {limit : ℕ} {ps : List (ℕ × Bool)} (links : IsLinked next previous used limit ps) where
  pub list-is : linked_list next used limit ≡ ps
  list-is = walk-is next previous used limit ps limit limit links.fits links.leads

  pub own : AreLinks next previous used limit
  own = subst (λ qs. IsLinked next previous used limit qs) (sym list-is) links

  -- Each place is within the tables.

  pub row_below : (r : ℕ) → on_ring r ps ≡ true → r < limit
  row_below r on = on_below next previous used limit ps limit limit r links.leads on

  row_within : (r : ℕ) → on_ring r ps ≡ true → r ≤ limit
  row_within r on = omega (arith, row_below r on)

  place_within : (at : ℕ) → on_ring at ((limit, false) ∷ ps) ≡ true → at ≤ limit
  place_within at on = elim (or_cases (eqb limit at) (on_ring at ps) on) [
    | inl end ↦ (let is = eqb-true limit at end in omega arith)
    | inr row ↦ (let below = row_below at row in omega arith)
  ]

  -- what a table gave at a place
  previous_read : (i a : ℕ) → i ≤ limit → a ≡ get_or previous i a → a ≡ get_or previous i 0
  previous_read i a within read = get_or_read previous i a (omega (arith, links.previous_size)) read 0

  pub next_read : (i a : ℕ) → i ≤ limit → a ≡ get_or next i a → a ≡ get_or next i 0
  next_read i a within read = get_or_read next i a (omega (arith, links.next_size)) read 0

  pub previous_within : (r a : ℕ) → on_ring r ps ≡ true → a ≡ get_or previous r a → a ≤ limit
  previous_within r a on read =
      let is = previous_read r a (row_within r on) read in
      rw is (place_within (get_or previous r 0) (previous_on next previous used limit ps limit limit r false links.leads on))

  pub last_within : (a : ℕ) → a ≡ get_or previous limit a → a ≤ limit
  last_within a read =
      rw (previous_read limit a (omega arith) read) (place_within (get_or previous limit 0) (last_on next previous used limit ps limit limit false links.leads))

  pub next_within : (r a : ℕ) → on_ring r ps ≡ true → a ≡ get_or next r a → a ≤ limit
  next_within r a on read =
      let is : a ≡ get_or next r 0 = next_read r a (row_within r on) read in
      elim (next_on next previous used limit ps limit limit r links.leads on) [
        | inl row ↦ (let below = row_below (get_or next r 0) row in omega arith)
        | inr end ↦ omega arith
      ]

  -- The changes.

  pub pushed : (r a : ℕ) → r < limit → length ps < limit → on_ring r ps ≡ false → a ≡ get_or previous limit a → IsLinked (set (set next a r) r limit) (set (set previous r a) limit r) (set used r false) limit (ps ++ (r, false) ∷ [])
  pushed r a below room absent read =
      let last : ℕ = get_or previous limit 0 in
      let end_off : on_ring limit ps ≡ false = limit_off next previous used limit ps limit limit links.leads in
      let limit_r : limit ≡ r → ⊥ = λ e. absurd (omega arith) in
      let r_limit : r ≡ limit → ⊥ = λ e. absurd (omega arith) in
      let next_size : length (set next last r) ≡ limit + 1 = length-set next last r ∙ links.next_size in
      let previous_size : length (set previous r last) ≡ limit + 1 = length-set previous r last ∙ links.previous_size in
      let to_row = redirect next previous used limit ps limit limit r links.next_size (omega arith) (omega (arith, links.previous_size)) end_off absent links.apart links.leads in
      let framed = frame (set next last r) (set previous r last) used limit ps limit r r limit limit r limit_r absent r_limit end_off to_row in
      let marked = frame_used (set (set next last r) r limit) (set (set previous r last) limit r) used limit ps limit r r false absent framed in
      rw (previous_read limit a (omega arith) read) (record {
        next_size = length-set (set next last r) r limit ∙ next_size;
        previous_size = length-set (set previous r last) limit r ∙ previous_size;
        used_size = length-set used r false ∙ links.used_size;
        leads = snoc (set (set next last r) r limit) (set (set previous r last) limit r) (set used r false) limit ps limit limit r false marked (get_or-set_same used r false false (omega (arith, links.used_size))) below (get_or-set_same (set next last r) r limit 0 (omega arith), get_or-set_same (set previous r last) limit r 0 (omega arith));
        apart = apart-push ps r false links.apart absent;
        fits = omega (arith, length_push ps (r, false));
      })

  pub dropped : (r a c : ℕ) → on_ring r ps ≡ true → a ≡ get_or previous r a → c ≡ get_or next r c → IsLinked (set next a c) (set previous c a) used limit (ring_without r ps)
  dropped r a c on before behind =
      let end_off : on_ring limit ps ≡ false = limit_off next previous used limit ps limit limit links.leads in
      rw (previous_read r a (row_within r on) before, next_read r c (row_within r on) behind) (record {
        next_size = length-set next (get_or previous r 0) (get_or next r 0) ∙ links.next_size;
        previous_size = length-set previous (get_or next r 0) (get_or previous r 0) ∙ links.previous_size;
        used_size = links.used_size;
        leads = unlinked next previous used limit ps limit limit r links.next_size links.previous_size (omega arith) (omega arith) end_off end_off links.apart on links.leads;
        apart = apart-without ps r links.apart;
        fits = omega (arith, length-without ps r links.apart on, links.fits);
      })

  pub marked : (r : ℕ) → IsLinked next previous (set used r true) limit (ring_touched r ps)
  marked r = record {
    next_size = links.next_size;
    previous_size = links.previous_size;
    used_size = length-set used r true ∙ links.used_size;
    leads = touched_bit next previous used limit ps limit limit r links.used_size links.leads;
    apart = apart-touched ps r links.apart;
    fits = omega (arith, length-touched r ps, links.fits);
  }

  -- What is read.

  pub after-end : (r c : ℕ) → on_ring r ps ≡ true → c ≡ get_or next r c → c ≡ limit → None ≡ row_behind r ps
  after-end r c on read end =
      let is : c ≡ get_or next r 0 = next_read r c (row_within r on) read in
      sym (after-is next previous used limit ps limit r on links.leads ∙ ap (λ b. cond b None (Some (get_or next r 0))) (eq-eqb (get_or next r 0) limit (sym is ∙ end)))

  pub after-row : (r c : ℕ) → on_ring r ps ≡ true → c ≡ get_or next r c → (c ≡ limit → ⊥) → Some c ≡ row_behind r ps
  after-row r c on read more =
      let is : c ≡ get_or next r 0 = next_read r c (row_within r on) read in
      ap (λ (at : ℕ). Some at) is ∙ sym (after-is next previous used limit ps limit r on links.leads ∙ ap (λ b. cond b None (Some (get_or next r 0))) (ne_eqb (get_or next r 0) limit (λ e. more (is ∙ e))))

  pub bit_read : (r : ℕ) (b : Bool) → on_ring r ps ≡ true → b ≡ get_or used r b → b ≡ bit_of r ps
  bit_read r b on read =
      get_or_read used r b (omega (arith, links.used_size, row_below r on)) read false ∙ used-is next previous used limit ps limit limit r links.leads on

  pub turns : (r : ℕ) → 0 < length ps → r ≡ get_or next limit r → ring_without r ps ++ (r, false) ∷ [] ≡ ring_turned ps
  turns r more read = turned-is next previous used limit ps limit limit r links.apart links.leads more (next_read limit r (omega arith) read)

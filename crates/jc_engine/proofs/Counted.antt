-- The table has as many rows as the caches have together.
use Rattle.jc_rows.proofs.Laws.{get-removed_cache, get-removed_key}
use Rattle.jc_engine.proofs.Names.{common_steps, nat_tests, cases_lt, sum_by-cons, bytes_eq-Decides, Expiry, Item, State, row_of, at_place, all_there, LacksKey, HasDistinctKeys, RowMap, expiry_at, same_rows, get-empty, len-empty}
use Rattle.jc_engine.proofs.Names.{get-removed_same, get-removed_absent, len-removed}
use Rattle.std.proofs.Common.{◌≡◌, ℕ, zero, suc, ◌+◌, ◌-◌, ◌<◌, List, [], ◌∷◌, length, Option, Some, None, inl, inr, refl, sym, ap, subst, ◌∙◌, arith, option_map, sum_by}
use Rattle.std.specs.FinMap as table

abbrev Found : Type 0
Found = Option (ℕ × Expiry)

lacking : (key : List ℕ) (xs : List Item) → LacksKey key xs → row_of key xs ≡ None
lacking key [] lacks = refl
lacking key (x ∷ xs) lacks = grind (arith, common_steps, (bytes_eq-Decides x.key key).0, lacks.0, lacking key xs lacks.1)

absent_by : (o : Found) → option_map (λ row. row.1) o ≡ None → o ≡ None
absent_by None e = refl
absent_by (Some row) e = absurd cc

-- from an id on, the table has the rows of these states and no others
record HasRows (m : RowMap) (base : ℕ) (states : List (Option State)) : Type 0 where
  own : (id i : ℕ) (key : List ℕ) → id ≡ base + i → option_map (λ row. row.1) (table.get m (id, key)) ≡ expiry_at key (at_place states i)
  before : (id : ℕ) (key : List ℕ) → id < base → table.get m (id, key) ≡ None
  distinct : (i : ℕ) (s : State) → at_place states i ≡ Some s → HasDistinctKeys s.ring

no_rows : (m : RowMap) (base : ℕ) → HasRows m base [] → m ≡ table.empty
no_rows m base has = same_rows m table.empty (λ x. at x.0 x.1 ∙ sym (get-empty x))
  where
    at : (id : ℕ) (key : List ℕ) → table.get m (id, key) ≡ None
    at id key = elim (cases_lt id base) [
      | inl below ↦ has.before id key below
      | inr above ↦ absent_by (table.get m (id, key)) (has.own id (id - base) key (omega (arith, above)))
    ]

-- where the first state has no rows, the others have them all
past : (m : RowMap) (base : ℕ) (o : Option State) (states : List (Option State)) → HasRows m base (o ∷ states) → ((key : List ℕ) → expiry_at key o ≡ None) → HasRows m (suc base) states
past m base o states has none = record {
  own = λ id i key is. has.own id (suc i) key (omega (arith, is));
  before = λ id key below. elim (cases_lt id base) [
    | inl less ↦ has.before id key less
    | inr not_less ↦ absent_by (table.get m (id, key)) (has.own id 0 key (omega (arith, below, not_less)) ∙ none key)
  ];
  distinct = λ i t at. has.distinct (suc i) t at;
}

-- the table without the first row of the first state
module _ (m : RowMap) (base : ℕ) (s : State) (x : Item) (xs : List Item) (states : List (Option State)) (has : HasRows m base (Some (record s { ring = x ∷ xs }) ∷ states)) where
  keys : LacksKey x.key xs × HasDistinctKeys xs
  keys = has.distinct 0 (record s { ring = x ∷ xs }) refl

  one_less : table.len (table.remove m (base, x.key)) + 1 ≡ table.len m
  one_less = len-removed m (base, x.key) (grind (arith, common_steps, (bytes_eq-Decides x.key x.key).1 refl, has.own base 0 x.key))

  own_less : (id i : ℕ) (key : List ℕ) → id ≡ base + i
      → option_map (λ row. row.1) (table.get (table.remove m (base, x.key)) (id, key)) ≡ expiry_at key (at_place (Some (record s { ring = xs }) ∷ states) i)
  own_less id zero key is =
      let same : id ≡ base = omega (arith, is) in
      rw same (grind (arith, common_steps, bytes_eq-Decides x.key key, bytes_eq-Decides key x.key, get-removed_same m (base, x.key), get-removed_key m base x.key base key, lacking x.key xs keys.0, has.own base 0 key))
  own_less id (suc i) key is = ap (option_map (λ row. row.1)) (get-removed_cache m base x.key id key (grind (arith, nat_tests))) ∙ has.own id (suc i) key is

  less : HasRows (table.remove m (base, x.key)) base (Some (record s { ring = xs }) ∷ states)
  less = record { own = own_less; before = λ id key below. get-removed_absent m (base, x.key) (id, key) (has.before id key below); distinct = distinct_less }
    where
      distinct_less : (i : ℕ) (t : State) → at_place (Some (record s { ring = xs }) ∷ states) i ≡ Some t → HasDistinctKeys t.ring
      distinct_less zero t at = let same : ◌≡◌ {A = State} (record s { ring = xs }) t = cc in subst (λ (u : State). HasDistinctKeys u.ring) same keys.1
      distinct_less (suc i) t at = has.distinct (suc i) t at

count_ring : (base total : ℕ) (s : State) (states : List (Option State)) → ((m : RowMap) → HasRows m (suc base) states → table.len m ≡ total)
    → (xs : List Item) (m : RowMap) → HasRows m base (Some (record s { ring = xs }) ∷ states) → table.len m ≡ length xs + total
count_ring base total s states rest [] m has = rest m (past m base (Some (record s { ring = [] })) states has (λ key. refl)) ∙ omega arith
count_ring base total s states rest (x ∷ xs) m has =
    let fewer = one_less m base s x xs states has in
    let more = count_ring base total s states rest xs (table.remove m (base, x.key)) (less m base s x xs states has) in
    omega arith

count_from : (m : RowMap) (base : ℕ) (states : List (Option State)) → HasRows m base states → table.len m ≡ sum_by (λ s. length s.ring) (all_there states)
count_from m base [] has = ap table.len (no_rows m base has) ∙ len-empty
count_from m base (None ∷ states) has = count_from m (suc base) states (past m base None states has (λ key. refl))
count_from m base (Some s ∷ states) has =
    count_ring base (sum_by (λ (t : State). length t.ring) (all_there states)) s states (λ n rows. count_from n (suc base) states rows) s.ring m has
    ∙ sym (sum_by-cons (λ (t : State). length t.ring) s (all_there states))

pub count : (m : RowMap) (states : List (Option State)) → ((id : ℕ) (key : List ℕ) → option_map (λ row. row.1) (table.get m (id, key)) ≡ expiry_at key (at_place states id)) → ((id : ℕ) (s : State) → at_place states id ≡ Some s → HasDistinctKeys s.ring)
    → table.len m ≡ sum_by (λ s. length s.ring) (all_there states)
count m states same distinct =
    count_from m 0 states (record { own = λ id i key is. (let at : id ≡ i = omega (arith, is) in rw at (same i key)); before = λ id key below. absurd (omega (arith, below)); distinct = distinct })

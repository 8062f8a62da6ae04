-- Bytes that are written one behind the other, and the rows that a step has given.
use Rattle.std.proofs.Common.{◌≡◌, ◌<◌, ◌≤◌, ℕ, suc, ◌+◌, ◌-◌, true, false, ltb, eqb, Ok, Err, List, [], ◌∷◌, ◌++◌, length, take, drop, Option, Some, None, refl, sym, ap, ap₂, ◌∙◌, arith, length-append}
use Rattle.std.proofs.lemmas.Bool.Decides.{nat_tests}
use Rattle.std.proofs.lemmas.List.{append-nil, append_assoc, drop-drop, drop_at, length-drop, length-take-le, take_at}
use Rattle.jc_ops.specs.declared.slots.Record.{Record}
use Rattle.jc_model.specs.declared.config.CacheConfig.{CacheConfig}
use Rattle.jc_engine.specs.Caches.{Cache, config_in, row_in}
use Rattle.jc_c.specs.declared.walk.Way.{Way}
use Rattle.jc_c.specs.Walk.{Gives, Numbered, WalkTells, Walked, bytes_of, fitting, given, laid_over, missing, length_at_end, number_at_end, number_behind, row_bytes, row_length, rows_from, short, status_at_end, walked, walked_by, with_row, written_at}

-- Bytes behind others.

module _ (p : ℕ) (a out : List ℕ) (fits : p + length a ≤ length out) where
  front : length (take p out ++ a) ≡ p + length a
  front = length-append (take p out) a ∙ ap (λ n. n + length a) (length-take-le p out (omega (arith, fits)))

  laid : written_at p a out ≡ (take p out ++ a) ++ drop (p + length a) out
  laid = sym (append_assoc (take p out) a (drop (p + length a) out))

  pub as_long : length (written_at p a out) ≡ length out
  as_long =
      let whole : length (written_at p a out) ≡ (p + length a) + (length out - (p + length a)) =
      ap length laid ∙ length-append (take p out ++ a) (drop (p + length a) out) ∙ ap₂ (λ m n. m + n) front (length-drop (p + length a) out) in
      omega (arith, whole, fits)

  kept : take (p + length a) (written_at p a out) ≡ take p out ++ a
  kept = ap (take (p + length a)) laid ∙ take_at (take p out ++ a) (drop (p + length a) out) (p + length a) front

  behind : (n : ℕ) → drop (p + length a + n) (written_at p a out) ≡ drop (p + length a + n) out
  behind n =
      sym (drop-drop n (p + length a) (written_at p a out))
      ∙ ap (drop n) (ap (drop (p + length a)) laid ∙ drop_at (take p out ++ a) (drop (p + length a) out) (p + length a) front)
      ∙ drop-drop n (p + length a) out

  -- bytes that are written right behind these are written with them
  pub written_on : (b : List ℕ) → written_at (p + length a) b (written_at p a out) ≡ written_at p (a ++ b) out
  written_on b =
      let both = length-append a b in
      let sum : p + length a + length b ≡ p + length (a ++ b) = omega (arith, both) in
      ap₂ (λ xs ys. xs ++ (b ++ ys)) kept (behind (length b))
      ∙ append_assoc (take p out) a (b ++ drop (p + length a + length b) out)
      ∙ ap (λ ys. take p out ++ ys) (sym (append_assoc a b (drop (p + length a + length b) out)))
      ∙ ap (λ n. take p out ++ ((a ++ b) ++ drop n out)) sum

pub written_thrice : (p : ℕ) (a b c out : List ℕ) → p + (length a + (length b + length c)) ≤ length out
    → written_at (p + length a + length b) c (written_at (p + length a) b (written_at p a out)) ≡ written_at p (a ++ (b ++ c)) out
written_thrice p a b c out fits =
    written_on (p + length a) b (written_at p a out) (let same = as_long p a out (omega (arith, fits)) in omega (arith, same, fits)) c
    ∙ written_on p a out (omega (arith, fits)) (b ++ c)

-- bytes that are written right behind the first ones
laid_on : (a b out : List ℕ) → written_at (length a) b (laid_over a out) ≡ laid_over (a ++ b) out
laid_on a b out =
    ap₂ (λ xs ys. xs ++ (b ++ ys)) (take_at a (drop (length a) out) (length a) refl)
    (sym (drop-drop (length b) (length a) (laid_over a out)) ∙ ap (drop (length b)) (drop_at a (drop (length a) out) (length a) refl) ∙ drop-drop (length b) (length a) out)
    ∙ sym (append_assoc a b (drop (length a + length b) out))
    ∙ ap (λ n. (a ++ b) ++ drop n out) (sym (length-append a b))

pub length-row_bytes : (row : Record) → length (row_bytes row) ≡ row_length row
length-row_bytes row = let rest = length-append row.key row.value in omega (arith, rest)

-- Rows that were given one after the other.

bytes-push : (rows : List Numbered) (p : Numbered) → bytes_of (rows ++ p ∷ []) ≡ bytes_of rows ++ row_bytes p.1
bytes-push [] p = append-nil (row_bytes p.1)
bytes-push (q ∷ qs) p = ap (λ l. row_bytes q.1 ++ l) (bytes-push qs p) ∙ sym (append_assoc (row_bytes q.1) (bytes_of qs) (row_bytes p.1))

behind-push : (from : ℕ) (rows : List Numbered) (p : Numbered) → number_behind from (rows ++ p ∷ []) ≡ p.0 + 1
behind-push from [] p = refl
behind-push from (q ∷ qs) p = behind-push (q.0 + 1) qs p

-- rows that fit are given, and then as many as fit behind them
fitting-all : (room : ℕ) (done rest : List Numbered) → length (bytes_of done) ≤ room → fitting room (done ++ rest) ≡ done ++ fitting (room - length (bytes_of done)) rest
fitting-all room [] rest fits = let same : room ≡ room - 0 = omega arith in ap (λ n. fitting n rest) same
fitting-all room (p ∷ done) rest fits =
    let both = length-append (row_bytes p.1) (bytes_of done) in
    let one = length-row_bytes p.1 in
    let here : ltb room (row_length p.1) ≡ false = let low : row_length p.1 ≤ room = omega (arith, both, one, fits) in grind (arith, nat_tests, low) in
    let left : room - row_length p.1 - length (bytes_of done) ≡ room - length (bytes_of (p ∷ done)) = omega (arith, both, one) in
    rw here (ap (λ l. p ∷ l) (fitting-all (room - row_length p.1) done rest (omega (arith, both, one, fits)) ∙ ap (λ n. done ++ fitting n rest) left))

-- where at least one was given
walked-given : (room : ℕ) (p : Numbered) (done rest : List Numbered) → length (bytes_of (p ∷ done)) ≤ room → walked_by room ((p ∷ done) ++ rest) ≡ given ((p ∷ done) ++ fitting (room - length (bytes_of (p ∷ done))) rest)
walked-given room p done rest fits =
    let both = length-append (row_bytes p.1) (bytes_of done) in
    let one = length-row_bytes p.1 in
    let here : ltb room (row_length p.1) ≡ false = let low : row_length p.1 ≤ room = omega (arith, both, one, fits) in grind (arith, nat_tests, low) in
    let all : fitting room ((p ∷ done) ++ rest) ≡ (p ∷ done) ++ fitting (room - length (bytes_of (p ∷ done))) rest = fitting-all room (p ∷ done) rest fits in
    rw (← all) (rw here refl)

-- How far a step has come: some rows are done, and those from a number on are left.
pub record Going (cache : Option Cache) (capacity from : ℕ) (before : List ℕ) (number : ℕ) (way : Way) (out : List ℕ) : Type 0 where
  pub done : List Numbered
  pub split : rows_from cache from (capacity - from) ≡ done ++ rows_from cache number (capacity - number)
  pub place_is : way.place ≡ length (bytes_of done)
  pub within : way.place ≤ length before
  pub next_is : way.next ≡ number_behind from done
  pub out_is : out ≡ laid_over (bytes_of done) before

pub sets_out : (cache : Option Cache) (capacity from : ℕ) (before : List ℕ) → Going cache capacity from before from (record { place = 0; next = from }) before
sets_out cache capacity from before = record { done = []; split = refl; place_is = refl; within = omega arith; next_is = refl; out_is = refl }

module _ {cache : Option Cache} {capacity from number : ℕ} {before out : List ℕ} {way : Way} (g : Going cache capacity from before number way out) where
  module _ (inside : number < capacity) where
    more : rows_from cache number (capacity - number) ≡ with_row number (row_in number cache) (rows_from cache (number + 1) (capacity - (number + 1)))
    more = ap (rows_from cache number) (let e : capacity - number ≡ suc (capacity - (number + 1)) = omega (arith, inside) in e)

    pub passes : row_in number cache ≡ None → Going cache capacity from before (number + 1) way out
    passes none = record {
      done = g.done;
      split = g.split ∙ ap (λ l. g.done ++ l) (more ∙ ap (λ o. with_row number o (rows_from cache (number + 1) (capacity - (number + 1)))) none);
      place_is = g.place_is;
      within = g.within;
      next_is = g.next_is;
      out_is = g.out_is;
    }

    module _ (row : Record) (here : row_in number cache ≡ Some row) where
      left : rows_from cache number (capacity - number) ≡ (number, row) ∷ rows_from cache (number + 1) (capacity - (number + 1))
      left = more ∙ ap (λ o. with_row number o (rows_from cache (number + 1) (capacity - (number + 1)))) here

      long : length (bytes_of (g.done ++ (number, row) ∷ [])) ≡ way.place + row_length row
      long =
          ap length (bytes-push g.done (number, row)) ∙ length-append (bytes_of g.done) (row_bytes row)
          ∙ ap₂ (λ m n. m + n) (sym g.place_is) (length-row_bytes row)

      pub gives : way.place + row_length row ≤ length before
          → Going cache capacity from before (number + 1) (record { place = way.place + row_length row; next = number + 1 }) (written_at way.place (row_bytes row) out)
      gives fits = record {
        done = g.done ++ (number, row) ∷ [];
        split = g.split ∙ ap (λ l. g.done ++ l) left ∙ sym (append_assoc g.done ((number, row) ∷ []) (rows_from cache (number + 1) (capacity - (number + 1))));
        place_is = sym long;
        within = fits;
        next_is = sym (behind-push from g.done (number, row));
        out_is =
            ap₂ (λ n o. written_at n (row_bytes row) o) g.place_is g.out_is
            ∙ laid_on (bytes_of g.done) (row_bytes row) before
            ∙ ap (λ l. laid_over l before) (sym (bytes-push g.done (number, row)));
      }

-- What it tells where it stops: the next row takes so many bytes, or there is none.
abbrev pub TellsAtEnd : Walked → ℕ → List ℕ → ℕ → ℕ → Way → Option ℕ → List ℕ → Type 0
TellsAtEnd w from before len next way wanted out = WalkTells w from before len next (status_at_end way wanted) out (length_at_end way wanted len) (number_at_end way next)

tells_given : (p : Numbered) (done : List Numbered) (w : Walked) (from len next : ℕ) (before out : List ℕ) (way : Way) (wanted : Option ℕ) → w ≡ given (p ∷ done) → way.place ≡ length (bytes_of (p ∷ done)) → way.next ≡ number_behind from (p ∷ done)
    → out ≡ laid_over (bytes_of (p ∷ done)) before → TellsAtEnd w from before len next way wanted out
tells_given p done w from len next before out way wanted is place next_is out_is =
    let both = length-append (row_bytes p.1) (bytes_of done) in
    let one = length-row_bytes p.1 in
    let some : eqb way.place 0 ≡ false = let many : 0 < way.place = omega (arith, both, one, place) in grind (arith, nat_tests, many) in
    rw (is, some) (record { status = refl; bytes = out_is; many = place; onward = next_is })

stop_by : (done : List Numbered) (q : Numbered) (rest : List Numbered) (w : Walked) (from len next : ℕ) (before out : List ℕ) (way : Way) → w ≡ walked_by (length before) (done ++ q ∷ rest) → way.place ≡ length (bytes_of done) → way.place ≤ length before
    → way.next ≡ number_behind from done → out ≡ laid_over (bytes_of done) before → length before - way.place < row_length q.1 → TellsAtEnd w from before len next way (Some (row_length q.1)) out
stop_by [] q rest w from len next before out way is place within next_is out_is less =
    let none : eqb way.place 0 ≡ true = grind (arith, nat_tests, place) in
    let no_room : ltb (length before) (row_length q.1) ≡ true = let low : length before < row_length q.1 = omega (arith, place, less) in grind (arith, nat_tests, low) in
    let short_is : w ≡ short (row_length q.1) = is ∙ rw no_room refl in
    rw (short_is, none) (record { status = refl; bytes = out_is; many = refl; onward = refl })
stop_by (p ∷ done) q rest w from len next before out way is place within next_is out_is less =
    let fits : length (bytes_of (p ∷ done)) ≤ length before = omega (arith, place, within) in
    let no_room : ltb (length before - length (bytes_of (p ∷ done))) (row_length q.1) ≡ true =
    let low : length before - length (bytes_of (p ∷ done)) < row_length q.1 = omega (arith, place, less) in grind (arith, nat_tests, low) in
    let none_more : fitting (length before - length (bytes_of (p ∷ done))) (q ∷ rest) ≡ [] = rw no_room refl in
    tells_given p done w from len next before out way (Some (row_length q.1))
    (is ∙ walked-given (length before) p done (q ∷ rest) fits ∙ ap (λ l. given ((p ∷ done) ++ l)) none_more ∙ ap given (append-nil (p ∷ done))) place next_is out_is

end_by : (done : List Numbered) (w : Walked) (from len next : ℕ) (before out : List ℕ) (way : Way) → w ≡ walked_by (length before) (done ++ []) → way.place ≡ length (bytes_of done) → way.place ≤ length before → way.next ≡ number_behind from done
    → out ≡ laid_over (bytes_of done) before → TellsAtEnd w from before len next way None out
end_by [] w from len next before out way is place within next_is out_is =
    let none : eqb way.place 0 ≡ true = grind (arith, nat_tests, place) in
    rw (is, none) (record { status = refl; bytes = out_is; many = refl; onward = refl })
end_by (p ∷ done) w from len next before out way is place within next_is out_is =
    let fits : length (bytes_of (p ∷ done)) ≤ length before = omega (arith, place, within) in
    tells_given p done w from len next before out way None (is ∙ walked-given (length before) p done [] fits ∙ ap given (append-nil (p ∷ done))) place next_is out_is

module _ {cache : Option Cache} {capacity from number : ℕ} {before out : List ℕ} {way : Way} (g : Going cache capacity from before number way out) where
  -- the next row is given, or there is none of this number
  pub stepped : {further : Way} {out' : List ℕ} (found : Option Record) → row_in number cache ≡ found → number < capacity → length out ≡ length before → Gives found number way out (Ok further) out'
      → Going cache capacity from before (number + 1) further out'
  stepped {further} {out'} None here inside same is = rw (is.0, is.1) (passes g inside here)
  stepped {further} {out'} (Some row) here inside same is =
      let fits : way.place + row_length row ≤ length before = let w = g.within in let r = is.0 in omega (arith, w, r, same) in
      rw (is.1, is.2) (gives g inside row here fits)

  -- the next row does not fit
  pub stopped : (wanted : ℕ) (out' : List ℕ) (found : Option Record) → row_in number cache ≡ found → number < capacity → length out ≡ length before → Gives found number way out (Err wanted) out'
      → (len next : ℕ) → TellsAtEnd (walked_by (length before) (rows_from cache from (capacity - from))) from before len next way (Some wanted) out'
  stopped wanted out' None here inside same is len next = absurd is
  stopped wanted out' (Some row) here inside same is len next =
      let less : length before - way.place < row_length row = let r = is.0 in omega (arith, r, same) in
      rw (is.1, is.2) (stop_by g.done (number, row) (rows_from cache (number + 1) (capacity - (number + 1))) (walked_by (length before) (rows_from cache from (capacity - from))) from len next before out way
      (ap (walked_by (length before)) (g.split ∙ ap (λ l. g.done ++ l) (left g inside row here))) g.place_is g.within g.next_is g.out_is less)

  -- there is no next row
  pub ended_there : capacity ≤ number → (len next : ℕ) → TellsAtEnd (walked_by (length before) (rows_from cache from (capacity - from))) from before len next way None out
  ended_there past len next =
      end_by g.done (walked_by (length before) (rows_from cache from (capacity - from))) from len next before out way
      (ap (walked_by (length before)) (g.split ∙ ap (λ l. g.done ++ l) (ap (rows_from cache number) (let none : capacity - number ≡ 0 = omega (arith, past) in none)))) g.place_is g.within g.next_is g.out_is

-- What is walked is the cache at its place, whose configuration has the capacity.

pub walked_there : (room : ℕ) (found : Option Cache) (from : ℕ) (c : CacheConfig) → Some c ≡ config_in found → walked room found from ≡ walked_by room (rows_from found from (c.capacity - from))
walked_there room None from c is = absurd cc
walked_there room (Some k) from c is = let same : k.config ≡ c = cc in ap (λ (d : CacheConfig). walked_by room (rows_from (Some k) from (d.capacity - from))) same

pub walked_nowhere : (room : ℕ) (found : Option Cache) (from : ℕ) → None ≡ config_in found → walked room found from ≡ missing
walked_nowhere room None from is = refl
walked_nowhere room (Some k) from is = absurd cc

-- Reading items one after the other, as a loop does.
use Rattle.std.proofs.Common.{◌≡◌, ℕ, suc, ◌-◌, ◌+◌, ◌≤◌, ◌<◌, Bool, true, false, not, cond, ◌||◌, List, [], ◌∷◌, ◌++◌, Result, Ok, Err, refl, sym, ap, ◌∙◌, arith}
use Rattle.std.proofs.lemmas.List.{map_push}
use Rattle.std.specs.HashSet.{HashSet, contains}
use Rattle.std.specs.List.{list_any}
use Rattle.std.specs.Str.{bytes_eq}
use Rattle.jc_model.specs.State.{Item}
use Rattle.jc_save.specs.declared.cache.SavedRow.{SavedRow}
use Rattle.jc_save.specs.declared.fault.Found.{Found}
use Rattle.jc_save.specs.declared.fault.Flaw.TheVariants as flaw
use Rattle.jc_save.specs.declared.fault.Stop.{Stop}
use Rattle.jc_save.specs.declared.fault.Stop.TheVariants as stop
use Rattle.jc_save.specs.Reading.{flaw_at, flag_at, flags_at, row_at, rows_at, has_key}
use Rattle.jc_save.specs.Restoring.{StopsAs, item, items}

-- Flags.

pub flags_more : (front : List Bool) (count i : ℕ) (bytes after : List ℕ) (wants : Bool) (total : Result (List Bool × List ℕ) Found) → i < count → flag_at bytes ≡ Ok (wants, after)
    → flags_at front (count - i) bytes ≡ total → flags_at (front ++ wants ∷ []) (count - (i + 1)) after ≡ total
unfolding flags_at
flags_more front count i bytes after wants total lt read so_far =
    let k : count - i ≡ suc (count - (i + 1)) = omega arith in
    let one : flags_at front (count - i) bytes ≡ flags_at (front ++ wants ∷ []) (count - (i + 1)) after = rw (k, read) refl in
    sym one ∙ so_far

pub flags_stop : (s : Stop) (front : List Bool) (count i : ℕ) (bytes : List ℕ) (total : Result (List Bool × List ℕ) Found) → i < count → StopsAs s (flag_at bytes)
    → flags_at front (count - i) bytes ≡ total → StopsAs s total
unfolding flags_at
flags_stop stop.Memory front count i bytes total lt h so_far = tt
flags_stop (stop.Flawed found) front count i bytes total lt h so_far =
    let k : count - i ≡ suc (count - (i + 1)) = omega arith in
    let one : flags_at front (count - i) bytes ≡ Err found = rw (k, h) refl in
    sym so_far ∙ one

pub flags_done : (front : List Bool) (count i : ℕ) (bytes : List ℕ) (total : Result (List Bool × List ℕ) Found) → count ≤ i → flags_at front (count - i) bytes ≡ total → total ≡ Ok (front, bytes)
unfolding flags_at
flags_done front count i bytes total le so_far =
    let k : count - i ≡ 0 = omega arith in
    let one : flags_at front (count - i) bytes ≡ Ok (front, bytes) = rw k refl in
    sym so_far ∙ one

-- Rows, with a set of their keys.

abbrev pub is_in : {S : Type 0} → HashSet (List ℕ) S → List ℕ → Bool
is_in keys key = contains bytes_eq keys key

pub record Reads {S : Type 0} (keys : HashSet (List ℕ) S) (rows : List SavedRow) (left : ℕ) (bytes : List ℕ) (total : Result (List Item × List ℕ) Found) : Type 0 where
  pub seen : (key : List ℕ) → is_in keys key ≡ has_key key (items rows)
  pub so_far : rows_at (items rows) left bytes ≡ total

any_push : (p : Item → Bool) (xs : List Item) (x : Item) → list_any p (xs ++ x ∷ []) ≡ cond (p x) true (list_any p xs)
any_push p [] x = go (p x) where
  go : (b : Bool) → (b || false) ≡ cond b true false
  go true = refl
  go false = refl
any_push p (y ∷ xs) x = ap (λ b. p y || b) (any_push p xs x) ∙ go (p y) (p x) where
  go : (a b : Bool) → (a || cond b true (list_any p xs)) ≡ cond b true (a || list_any p xs)
  go true true = refl
  go true false = refl
  go false true = refl
  go false false = refl

not_true : (b : Bool) → not b ≡ true → b ≡ false
not_true true e = sym e
not_true false e = refl

not_false : (b : Bool) → not b ≡ false → b ≡ true
not_false true e = refl
not_false false e = sym e

module _ {S : Type 0} (keys : HashSet (List ℕ) S) (rows : List SavedRow) (count i : ℕ) (bytes : List ℕ) (total : Result (List Item × List ℕ) Found) (reads : Reads keys rows (count - i) bytes total) where
  pub rows_more : (more : HashSet (List ℕ) S) (row : SavedRow) (is_new : Bool) (after : List ℕ) → i < count → row_at bytes ≡ Ok (item row, after)
      → is_new ≡ not (is_in keys row.key) → is_new ≡ true
      → ((key : List ℕ) → is_in more key ≡ cond (bytes_eq row.key key) true (is_in keys key))
      → Reads more (rows ++ row ∷ []) (count - (i + 1)) after total
  unfolding rows_at
  rows_more more row is_new after lt read added new updates =
      let k : count - i ≡ suc (count - (i + 1)) = omega arith in
      let lacks : has_key row.key (items rows) ≡ false = sym (reads.seen row.key) ∙ not_true (is_in keys row.key) (sym added ∙ new) in
      let pushed : items (rows ++ row ∷ []) ≡ items rows ++ item row ∷ [] = map_push item rows row in
      let one : rows_at (items rows) (count - i) bytes ≡ rows_at (items rows ++ item row ∷ []) (count - (i + 1)) after = rw (k, read, lacks) refl in
      record {
        seen = λ key. updates key ∙ rw (pushed, any_push (λ x. bytes_eq x.key key) (items rows) (item row), reads.seen key) refl;
        so_far = rw pushed (sym one ∙ reads.so_far);
      }

  pub rows_twice : (row : SavedRow) (is_new : Bool) (after : List ℕ) → i < count → row_at bytes ≡ Ok (item row, after)
      → is_new ≡ not (is_in keys row.key) → is_new ≡ false → total ≡ Err (flaw_at flaw.DuplicateKey bytes)
  unfolding rows_at
  rows_twice row is_new after lt read added old =
      let k : count - i ≡ suc (count - (i + 1)) = omega arith in
      let has : has_key row.key (items rows) ≡ true = sym (reads.seen row.key) ∙ not_false (is_in keys row.key) (sym added ∙ old) in
      let one : rows_at (items rows) (count - i) bytes ≡ Err (flaw_at flaw.DuplicateKey bytes) = rw (k, read, has) refl in
      sym reads.so_far ∙ one

  pub rows_stop : (s : Stop) → i < count → StopsAs s (row_at bytes) → StopsAs s total
  unfolding rows_at
  rows_stop stop.Memory lt h = tt
  rows_stop (stop.Flawed found) lt h =
      let k : count - i ≡ suc (count - (i + 1)) = omega arith in
      let one : rows_at (items rows) (count - i) bytes ≡ Err found = rw (k, h) refl in
      sym reads.so_far ∙ one

  pub rows_done : count ≤ i → total ≡ Ok (items rows, bytes)
  unfolding rows_at
  rows_done le =
      let k : count - i ≡ 0 = omega arith in
      let one : rows_at (items rows) (count - i) bytes ≡ Ok (items rows, bytes) = rw k refl in
      sym reads.so_far ∙ one

-- Caches that are being written, and rows that are being added.
use Rattle.std.proofs.Common.{◌≡◌, ◌≢◌, ◌≤◌, ◌<◌, ◌+◌, ◌*◌, ℕ, List, [], ◌∷◌, ◌++◌, length, option_map, is_some, true, false, Ok, Err, Option, Some, None, refl, sym, ap, subst, ◌∙◌, append_assoc, append-nil, arith}
use Rattle.std.specs.List.{flat_map, AllByRecursion}
use Rattle.std.proofs.lemmas.List.{length-append}
use Rattle.std.proofs.lemmas.List.Concat.{flat_map-cons}
use Rattle.std.proofs.lemmas.Grind.{flat_map-append}
use Rattle.jc_engine.proofs.Names.{Cache, Awaited, Wait, common_steps, nat_tests, RowMap, SameElsewhere, length-map, map-append, bytes_eq-Decides, Item, row_of, HasDistinctKeys, LacksKey, Kept, item_of, items_of}
use Rattle.jc_ops.specs.declared.slots.Record.{Record}
use Rattle.jc_ops.specs.Kept.{item_with, state_of}
use Rattle.jc_ops.specs.Shelf.{Cell, seek, bit_in, row_after}
use Rattle.jc_ops.specs.Tied.{Distinct}
use Rattle.jc_ops.proofs.Walk.{rows_from}
use Rattle.jc_ops.proofs.Saving.{ReadTo, read_goes_on, read_is_shorter}
use Rattle.jc_ops.proofs.Ties.{Tied-same}
use Rattle.jc_ops.specs.Visited.{Visited, IsKeptIn, SpendsAtMost}
use Rattle.jc_ring.specs.Ring.{first}
use Rattle.jc_model.specs.declared.event.Cause.TheVariants.{Busy}
use Rattle.jc_model.specs.Refusals.{broken_limit}
use Rattle.jc_model.proofs.Refusals.{keeps_limits}
use Rattle.jc_engine.specs.Saving.{saved_length}
use Rattle.jc_save.specs.declared.cache.SavedRow.{SavedRow}
use Rattle.jc_save.specs.Placing.{put_at, piece_bytes, row_bytes}
use Rattle.jc_save.specs.Restoring.{item, items}
use Rattle.jc_save.specs.Savable.{IsRow}
use Rattle.jc_save.specs.Spelling.{head, row, saved}
use Rattle.jc_save.proofs.Placing.{put_after}

abbrev pub written : Kept → List Item → List ℕ
written k done = head k.config k.counts (length k.cells) ++ flat_map row done

-- The head is written, and the rows before this one.
pub record HasWritten (k : Kept) (next : Option ℕ) (at : ℕ) (before out : List ℕ) : Type 0 where
  pub done : List Item
  pub read : ReadTo k.cells done next
  pub place : at ≡ length (written k done)
  pub few : at ≤ piece_bytes + row_bytes * length done
  pub out_is : out ≡ put_at 0 (written k done) before
  pub rows : AllByRecursion IsRow done

all_push : (xs : List Item) (x : Item) → AllByRecursion IsRow xs → IsRow x → AllByRecursion IsRow (xs ++ x ∷ [])
all_push [] x all p = (p, tt)
all_push (y ∷ xs) x all p = (all.0, all_push xs x all.1 p)

read_begins : (cells : List Cell) → ReadTo cells [] (option_map (λ c. c.row) (first cells))
read_begins [] = record { all = refl; on = λ r e. absurd cc }
read_begins (c ∷ cs) = record { all = grind (arith, common_steps, nat_tests); on = λ r e. grind (arith, common_steps, nat_tests) }

pub none_written : (k : Kept) (next : Option ℕ) (at : ℕ) (before out : List ℕ) → next ≡ option_map (λ c. c.row) (first k.cells) → at ≡ length (head k.config k.counts (length k.cells)) → at ≤ piece_bytes
    → out ≡ put_at 0 (head k.config k.counts (length k.cells)) before → HasWritten k next at before out
none_written k next at before out begins place few put =
    let none : written k [] ≡ head k.config k.counts (length k.cells) = append-nil (head k.config k.counts (length k.cells)) in
    record {
      done = [];
      read = rw begins (read_begins k.cells);
      place = rw none place;
      few = omega (arith, few);
      out_is = rw none put;
      rows = tt;
    }

row_written : (k : Kept) (done : List Item) (x : Item) → written k (done ++ x ∷ []) ≡ written k done ++ row x
row_written k done x =
    let start : List ℕ = head k.config k.counts (length k.cells) in
    ap (λ (t : List ℕ). start ++ t) (flat_map-append row done (x ∷ []) ∙ ap (λ (t : List ℕ). flat_map row done ++ t) (flat_map-cons row x [] ∙ append-nil (row x)))
    ∙ sym (append_assoc start (flat_map row done) (row x))

module _ (k : Kept) (r : ℕ) (it : Record) (at : ℕ) (before out : List ℕ) (d : Distinct k.cells) (h : HasWritten k (Some r) at before out) (e : seek r k.cells ≡ Some it) where
  pub row_is_next : (behind : ℕ) (after : List ℕ) → behind ≡ at + length (row (item_with it (bit_in r k.cells))) → behind ≤ at + row_bytes
      → after ≡ put_at at (row (item_with it (bit_in r k.cells))) out → IsRow (item_with it (bit_in r k.cells)) → HasWritten k (row_after r k.cells) behind before after
  row_is_next behind after place few put limits =
      let x : Item = item_with it (bit_in r k.cells) in
      let more = row_written k h.done x in
      record {
        done = h.done ++ x ∷ [];
        read = read_goes_on k.cells h.done r it d h.read e;
        place = rw more (omega (arith, place, h.place, length-append (written k h.done) (row x)));
        few = omega (arith, few, h.few, length-append h.done (x ∷ []));
        out_is = rw (more, put, h.out_is, h.place) (put_after (written k h.done) (row x) before);
        rows = all_push h.done x h.rows limits;
      }

  pub at_fits : broken_limit k.config ≡ None → length k.cells ≤ k.config.capacity → at < 281474976710656
  at_fits kept within = omega (arith, h.few, within, (keeps_limits k.config kept).rows, read_is_shorter k.cells h.done r it d h.read e)

  pub fewer_left : length (rows_from (row_after r k.cells) k.cells) < length (rows_from (Some r) k.cells)
  fewer_left =
      let x : Item = item_with it (bit_in r k.cells) in
      let now : length (h.done ++ items_of (rows_from (Some r) k.cells)) ≡ length (items_of k.cells) = ap length h.read.all in
      let then : length ((h.done ++ x ∷ []) ++ items_of (rows_from (row_after r k.cells) k.cells)) ≡ length (items_of k.cells) = ap length (read_goes_on k.cells h.done r it d h.read e).all in
      omega (arith, now, then, length-append h.done (items_of (rows_from (Some r) k.cells)), length-append (h.done ++ x ∷ []) (items_of (rows_from (row_after r k.cells) k.cells)), length-append h.done (x ∷ []), length-map (rows_from (Some r) k.cells) item_of, length-map (rows_from (row_after r k.cells) k.cells) item_of)

-- All is written.
module _ (k : Kept) (at : ℕ) (before out : List ℕ) (h : HasWritten k None at before out) where
  done_is : h.done ≡ items_of k.cells
  done_is = sym (append-nil h.done) ∙ h.read.all

  whole : written k h.done ≡ saved k.config (state_of k)
  unfolding saved
  whole = rw (done_is, length-map k.cells item_of) refl

  pub all_length : at ≡ length (saved k.config (state_of k))
  all_length = h.place ∙ ap length whole

  pub all_out : out ≡ put_at 0 (saved k.config (state_of k)) before
  all_out = h.out_is ∙ ap (λ (t : List ℕ). put_at 0 t before) whole

  pub all_rows : AllByRecursion IsRow (items_of k.cells)
  all_rows = subst (AllByRecursion IsRow) done_is h.rows

-- A key is not among those before it.
pub unseen : (before after : List Item) (x : Item) → HasDistinctKeys (before ++ x ∷ after) → row_of x.key before ≡ None
unseen [] after x d = refl
unseen (y ∷ before) after x d = grind (arith, common_steps, bytes_eq-Decides y.key x.key, lacks before after x y.key d.0, unseen before after x d.1)
  where
    lacks : (before after : List Item) (x : Item) (key : List ℕ) → LacksKey key (before ++ x ∷ after) → x.key ≢ key
    lacks [] after x key l = l.0
    lacks (z ∷ before) after x key l = lacks before after x key l.1

-- Of the rows these were added, and these are left.
pub record HasAdded (v w : Visited) (done rest : List SavedRow) : Type 0 where
  pub added : items_of w.cache.cells ≡ items done
  pub same : w.cache ≡ record v.cache { cells = w.cache.cells }
  pub elsewhere : SameElsewhere v.cache.id v.table w.table
  pub noted : w.noted ≡ v.noted
  pub room : length rest ≤ w.spare

module _ (u v : Visited) (done rest rows : List SavedRow) (r : SavedRow) (h : HasAdded u v done (r ∷ rest)) (all : done ++ r ∷ rest ≡ rows) where
  pub is_absent : HasDistinctKeys (items rows) → row_of r.key (items_of v.cache.cells) ≡ None
  is_absent apart = rw h.added (unseen (items done) (items rest) (item r) (rw (← map-append item done (r ∷ rest), all) apart))

  pub is_within : length rows ≤ u.cache.config.capacity → length v.cache.cells < v.cache.config.capacity
  is_within fits =
      let many : length v.cache.cells ≡ length done = sym (length-map v.cache.cells item_of) ∙ ap length h.added ∙ length-map done item in
      let config : v.cache.config ≡ u.cache.config = ap (λ (k : Kept). k.config) h.same in
      rw config (omega (arith, many, fits, ap length all, length-append done (r ∷ rest)))

  pub one_added : (w : Visited) → SpendsAtMost 1 0 v w → w.cache ≡ record v.cache { cells = w.cache.cells } → items_of w.cache.cells ≡ items_of v.cache.cells ++ item r ∷ [] → w.noted ≡ v.noted
      → HasAdded u w (done ++ r ∷ []) rest
  one_added w spends same added noted = record {
    added = added ∙ ap (λ (xs : List Item). xs ++ item r ∷ []) h.added ∙ sym (map-append item done (r ∷ []));
    same = same ∙ ap (λ (k : Kept). record k { cells = w.cache.cells }) h.same;
    elsewhere = λ other key differ. (let id : v.cache.id ≡ u.cache.id = ap (λ (k : Kept). k.id) h.same in spends.same.elsewhere other key (rw id differ) ∙ h.elsewhere other key differ);
    noted = noted ∙ h.noted;
    room = omega (arith, spends.room, h.room);
  }

-- a cache without rows has none, where the table has changed elsewhere
pub empty_kept : (m n : RowMap) (id : ℕ) (spare : Kept) → IsKeptIn m spare → spare.id ≢ id → SameElsewhere id m n → IsKeptIn n spare
empty_kept m n id spare kept apart same = record {
  tied = Tied-same m n spare.id spare.cells (λ key. same spare.id key (grind (arith, nat_tests))) kept.tied;
  within = kept.within;
}

-- What saving answers.

pub open_not_saved : (k : Cache) → is_some k.turn ≡ true → saved_length (Some k) ≡ Err Busy
open_not_saved k is = by k.turn is
  where
    by : (turn : Option (Awaited × Wait)) → is_some turn ≡ true → saved_length (Some (record k { turn = turn })) ≡ Err Busy
    by None is = absurd cc
    by (Some w) is = refl

pub idle_saved : (k : Cache) → is_some k.turn ≡ false → saved_length (Some k) ≡ Ok (length (saved k.config k.progress.state))
idle_saved k is = by k.turn is
  where
    by : (turn : Option (Awaited × Wait)) → is_some turn ≡ false → saved_length (Some (record k { turn = turn })) ≡ Ok (length (saved k.config k.progress.state))
    by None is = refl
    by (Some w) is = absurd cc

-- A step once its key's expired row is gone: as it begins, and while it waits.
use Rattle.jc_ops.proofs.Names.{◌≡◌, ℕ, ◌+◌, arith, Bool, false, if◌then◌else◌, List, [], refl, sym, ap, common_steps, Option, Some, None, is_some, Answer, KeyCall, Op}
use Rattle.jc_ops.proofs.Names.{CacheConfig, Put}
use Rattle.jc_ops.proofs.Names.{row_of, Progress, find_row, purge, KeyWait, items_of, Kept, FoundRow, Visited, SpendsAtMost, progress_in, has_live_in}
use Rattle.jc_ops.proofs.Names.{IsWaiting, WaitsIn}
use Rattle.jc_ops.proofs.Names.{waits_first, is_invoke, told_of, told_on, most_told}
use Rattle.jc_model.specs.declared.call.Op.TheVariants as op
use Rattle.jc_model.specs.Changes.{expire}
use Rattle.jc_model.specs.State.{Item, is_live}
use Rattle.jc_model.proofs.Everywhere.{at_each-answered}
use Rattle.jc_model.proofs.Purge.{expired_gone}
use Rattle.jc_model.proofs.Waits.{step-waits}
use Rattle.jc_ops.specs.declared.supply.Supply.{Supply}
use Rattle.jc_ops.specs.Carried.{IsReady}
use Rattle.jc_ops.specs.Supply.{CoversAnswerIn, HasPlacesFor, HasRoomAt, most_told_in}

-- where the key has a row
pub row_is_there : (key : List ℕ) (k : Kept) (row : Option ℕ) → FoundRow key k row → is_some (row_of key (items_of k.cells)) ≡ is_some row
row_is_there key k row found = grind (arith, common_steps)

-- while a step waits, its key's expired row is gone
pub waits_purged : (c : CacheConfig) (p : Progress) (w : KeyWait) → IsWaiting c p w → purge c w.now w.call.key p ≡ p
waits_purged c p w h = grind (arith, at_each-answered, step-waits)

live_by : (c : CacheConfig) (now : ℕ) (k : List ℕ) (p : Progress) (o : Option Item) → find_row k p ≡ o → (elim o [ None ↦ p | Some x ↦ if is_live now x then p else expire c now x p ]) ≡ p →
    is_some o ≡ (elim o [ None ↦ false | Some x ↦ is_live now x ])
live_by c now k p None there gone = refl
live_by c now k p (Some x) there gone = grind (arith, common_steps, expired_gone c now k x p there, ap (find_row k) gone)

-- a step may tell one notice more than its operation, where the key has no live row
pub most_is : (there : Bool) (o : Op) → most_told there o ≡ told_on there o + (if there then 0 else 1)
most_is there o = grind (arith, common_steps)

pub invoke_told : (there : Bool) (processor : ℕ) (argument : List ℕ) (o : Op) → o ≡ op.Invoke processor argument → told_on there o ≡ told_of there Put
invoke_told there processor argument o is = rw is (grind (arith, common_steps))

-- A step that waits, with its supply for this answer.
module _ (v : Visited) (w : KeyWait) (a : Answer) (s : Supply) (row : FoundRow w.call.key v.cache s.row) (waits : WaitsIn v w) where
  there : has_live_in v w.call.key ≡ is_some s.row
  there = rw (← row_is_there w.call.key v.cache s.row row)
      (sym (live_by v.cache.config v.moment w.call.key (progress_in v) _ refl (rw waits.moment at (waits_purged v.cache.config (progress_in v) w waits.waits))))

  pub ready : CoversAnswerIn v w a s.values → HasRoomAt w a v → HasPlacesFor w.call v → IsReady v (told_on (is_some s.row) w.call.op) w a s
  ready covered room places = record {
    row = row;
    places = λ listens. omega (arith, most_is (is_some s.row) w.call.op, rw there at (places listens));
    covered = covered;
    room = rw there at room;
    waits = waits;
  }

  pub spends_all : (x : Visited) → SpendsAtMost 1 (told_on (is_some s.row) w.call.op) v x → SpendsAtMost 1 (most_told_in v w.call) v x
  spends_all x spends = rw there (record { same = spends.same; room = spends.room; places = omega (arith, most_is (is_some s.row) w.call.op, spends.places) })

-- what the code has of such a step

pub not_invoke : (o : Op) → ((processor : ℕ) (argument : List ℕ) → o ≡ op.Invoke processor argument → ⊥) → is_invoke o ≡ false
not_invoke o h = grind (arith, common_steps)

pub line_view : (now : ℕ) (call : KeyCall) (given : List Answer) (w : KeyWait) (moment : ℕ) → w.now ≡ moment → given ≡ [] →
    ◌≡◌ {A = KeyWait} (record { now = now; call = call; given = given }) w → waits_first moment call ≡ w
line_view now call given w moment at none view = rw (← at, ← view, none)

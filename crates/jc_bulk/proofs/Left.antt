-- What the steps that are left need stays right while the steps before them are done.
use Rattle.std.proofs.Common.{◌≡◌, ◌≢◌, ℕ, true, false, if◌then◌else◌, not, leb, Option, Some, None, IfSome, List, [], ◌∷◌, ◌++◌, drop, length, sym, ◌∙◌, arith}
use Rattle.std.proofs.lemmas.Grind.{common_steps}
use Rattle.std.specs.List.{All}
use Rattle.std.proofs.lemmas.List.Elements.{All-nil, All-cons, All-head, All-tail, All-append, All-push, All-drop, All-map, All-filter, All-weaker}
use Rattle.std.specs.Str.{bytes_eq}
use Rattle.std.proofs.lemmas.Slice.Eq.{bytes_eq-Decides}
use Rattle.jc_model.proofs.Rings.{room_in}
use Rattle.jc_model.proofs.Keeps.{step-keeps}
use Rattle.jc_bulk.proofs.Names.{KeyCall, CacheConfig, Item, State, passed, before_stop, from_stop, turned, row_of, Progress, step, Throughout, Answer, Reply, Run, HasDistinctKeys, KeyWait, StepsTo, answer_run, Covers, Provided, calls_in, keys_in, AreCovered}
use Rattle.jc_bulk.proofs.Names.{Visited, Awaited, Ahead, IsAheadOf, IsSuspendedIn, items_of, progress_in, waits_of}
use Rattle.jc_model.specs.Run.{answered}
use Rattle.jc_model.proofs.Everywhere.{at_each-answered}
use Rattle.jc_model.proofs.Resume.{answered-append}
use Rattle.jc_ops.specs.declared.step.Next.{Next}
use Rattle.jc_ops.specs.declared.step.Next.TheVariants.{Ended, Waiting}
use Rattle.jc_model.specs.Lists.{distinct}
use Rattle.jc_bulk.proofs.Rows.{StillThere, all_there}

-- A step of one key leaves the rows of other keys with their values: some may be evicted, none gets another value.

-- where the row is of this key, it has this value
abbrev pub HasValue : List ℕ → Option (List ℕ) → Item → Type 0
HasValue q o y = y.key ≡ q → o ≡ Some y.value

-- all rows of this key have this value
abbrev pub Fits : List ℕ → Option (List ℕ) → List Item → Type 0
Fits q o ring = All (HasValue q o) ring

-- A row that is found fits.
pub fits-found : (q : List ℕ) (o : Option (List ℕ)) (ring : List Item) (x : Item) → Fits q o ring → row_of q ring ≡ Some x → o ≡ Some x.value
fits-found q o [] x f e = cc
fits-found q o (y ∷ ys) x f e = grind (arith, common_steps, bytes_eq-Decides y.key q, All-head (HasValue q o) y ys f, fits-found q o ys x (All-tail (HasValue q o) y ys f))

-- The hand leaves the rows before which it stops, and passes those before them.
all-parts : (P : Item → Type 0) (now : ℕ) (xs : List Item) → All P xs → All P (from_stop now xs) × All P (before_stop now xs)
all-parts P now [] f = (f, f)
all-parts P now (x ∷ xs) f =
    let rest = all-parts P now xs (All-tail P x xs f) in
    grind (arith, common_steps, f, rest.0, All-nil P, All-cons P x _ (All-head P x xs f) rest.1)

all-room : (P : Item → Type 0) (c : CacheConfig) (now : ℕ) (xs : List Item) → ((x : Item) → P x → P (passed x)) → All P xs → All P (room_in c now xs)
all-room P c now xs passes f =
    let parts = all-parts P now xs f in
    let all : All P (turned now xs) = All-append P _ _ parts.0 (All-map P passed _ (All-weaker P _ passes _ parts.1)) in
    elim (leb c.capacity (length xs)) as (λ b. All P (if b then drop 1 (turned now xs) else xs)) [ true ↦ All-drop P 1 _ all | false ↦ f ]

-- no change of another key's row gives a row of this key another value
pub step-fits : (c : CacheConfig) (now : ℕ) (q : List ℕ) (o : Option (List ℕ)) (call : KeyCall) (p : Progress) → call.key ≢ q → Fits q o p.state.ring → Throughout (λ s. Fits q o s.ring) (step c now call p)
step-fits c now q o call p d h = step-keeps c now (Fits q o) call p (record {
  gone = λ x ring is f. All-filter (λ y. not (bytes_eq y.key x.key)) (HasValue q o) ring f;
  set = λ x ring is f. All-map (HasValue q o) _ ring (All-weaker (HasValue q o) (λ y. HasValue q o (if bytes_eq y.key x.key then x else y)) (λ y g same'. (let other : x.key ≢ q = λ same. d (sym is ∙ same) in grind (arith, common_steps, g))) ring f);
  pushed = λ x ring is l f. All-push (HasValue q o) _ x (all-room (HasValue q o) c now ring (λ y g. g) f) (λ same. absurd (d (sym is ∙ same)));
}) h

-- a ring with distinct keys fits what is found in it
fits-there : (q : List ℕ) (o : Option (List ℕ)) (left ring : List Item) → StillThere left ring → ((x : Item) → row_of q ring ≡ Some x → o ≡ Some x.value) → Fits q o left
fits-there q o [] ring s h = All-nil (HasValue q o)
fits-there q o (y ∷ ys) ring s h = All-cons (HasValue q o) y ys (λ same. h y (rw (← same) s.0)) (fits-there q o ys ring s.1 h)

-- Where a step has come to, the rows of other keys have their values, and so the steps that are left have theirs.

came_to : (c : CacheConfig) (run : Run) (next : Next KeyWait Reply) (p : Progress) (P : State → Type 0) → StepsTo c run next p → Throughout P run → P p.state
came_to c run (Ended reply) p P e h = rw e at h
came_to c run (Waiting request w) p P e h = (rw e.run_is at h).0

-- the first is not the second, and with those behind it they are different
past_second : (k q : List ℕ) (ks : List (List ℕ)) → distinct (k ∷ q ∷ ks) ≡ true → (k ≢ q) × (distinct (k ∷ ks) ≡ true)
past_second k q ks e = (λ same. grind (arith, common_steps, bytes_eq-Decides q k), grind (arith, common_steps))

-- the step on a key, with these answers
module _ (c : CacheConfig) (now : ℕ) (call : KeyCall) (p : Progress) (given : List Answer) (next : Next KeyWait Reply) (after : Progress) (e : StepsTo c (answered (step c now call p) given) next after) (d : HasDistinctKeys p.state.ring) where
  -- what is the value of the row as it was, if it is there, is that of the row as it is
  found_was : (q : List ℕ) (o : Option (List ℕ)) → call.key ≢ q → ((x : Item) → row_of q p.state.ring ≡ Some x → o ≡ Some x.value) → (x : Item) → row_of q after.state.ring ≡ Some x → o ≡ Some x.value
  found_was q o differ h x is =
      let there = fits-there q o p.state.ring p.state.ring (all_there p.state.ring d) h in
      fits-found q o after.state.ring x (came_to c _ next after (λ t. Fits q o t.ring) e (at_each-answered _ _ (step c now call p) given (step-fits c now q o call p differ there))) is

  pub covered-stays : (rest : List Provided) → distinct (call.key ∷ keys_in (calls_in rest)) ≡ true → AreCovered c p.state.ring rest → AreCovered c after.state.ring rest
  covered-stays [] apart v = tt
  covered-stays (s ∷ ss) apart v =
      let here = past_second call.key s.call.key (keys_in (calls_in ss)) apart in (
        record {
          stored = v.0.stored;
          told = v.0.told;
          copy = v.0.copy;
          shown = λ shows. found_was s.call.key s.values.shown here.0 (v.0.shown shows);
          entry = λ invokes. found_was s.call.key s.values.entry here.0 (v.0.entry invokes);
        },
        covered-stays ss here.1 v.1,
      )

-- so also where a call has had its answer
pub covered_at_answer : (awaits : Awaited) (v : Visited) (w : KeyWait) (ahead : Option Ahead) (a : Answer) (next : Next KeyWait Reply) (after : Progress) → IsSuspendedIn v (waits_of awaits w ahead) → IfSome ahead (IsAheadOf w.call.key)
    → HasDistinctKeys (items_of v.cache.cells) → StepsTo v.cache.config (answer_run v w a) next after → IfSome ahead (λ r. AreCovered v.cache.config after.state.ring r.rest.items)
covered_at_answer awaits v w None a next after h ahead d e = tt
covered_at_answer awaits v w (Some r) a next after h ahead d e =
    covered-stays v.cache.config w.now w.call (progress_in v) (w.given ++ a ∷ []) next after (rw answered-append e) d r.rest.items ahead.apart h.suspended.held.1

-- One step more.

pub covered-push : (c : CacheConfig) (items : List Item) (ps : List Provided) (p : Provided) → AreCovered c items ps → Covers c.writer c p.call items p.values → AreCovered c items (ps ++ p ∷ [])
covered-push c items [] p h g = (g, tt)
covered-push c items (q ∷ qs) p h g = (h.0, covered-push c items qs p h.1 g)

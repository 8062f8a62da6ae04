-- The law over steps: what holds of every request and of every way in which a line ends, holds everywhere in a step,
-- in a call on many keys and in a whole call; a step makes three requests at most.
use Rattle.jc_model.proofs.Names.{Bool, List, None, Option, Some, [], arith, false, length, refl, true, ℕ, ◌*◌, ◌+◌, ◌∷◌, ◌≡◌, ◌≤◌, common_steps, All-head, All-tail, All, sum, Call, KeyCall, Op}
use Rattle.jc_model.proofs.Names.{Reply, Fault, Request, Verdict, CacheConfig, Change, Sum, empty_sum, Progress, begun, find_row, purge, Goes, IsOf, Within, asks_loader, may_load, Run, load}
use Rattle.jc_model.proofs.Names.{load_for, process, Item, State, act_absent, act_live, acted, by_ask, by_loader, by_processor, by_writer, carried, changed, counted, ended_by}
use Rattle.jc_model.proofs.Names.{expecting, failed_by, live_in, on_row, step, absent_line, absent_verdict, decided, expected_by, invoked_by, live_line, live_verdict, otherwise, value_of, Plan}
use Rattle.jc_model.proofs.Names.{after_key, asked_by, at_once, carried_out, each, many, one, plan, told_first, whole}
use Rattle.jc_model.specs.declared.call.By.TheVariants as by
use Rattle.jc_model.specs.declared.call.Request.TheVariants as request
use Rattle.jc_model.specs.declared.table.Ask.{Ask}
use Rattle.jc_model.specs.declared.table.Ask.TheVariants as ask
use Rattle.jc_model.specs.declared.table.Change.TheVariants as change
use Rattle.jc_model.specs.declared.table.TableLine.{TableLine}
use Rattle.jc_model.proofs.Everywhere.{goes-more, goes-within, goes-and_then}

-- E holds of each way in which a line ends where the key k has this row, if any.
abbrev pub Ends : CacheConfig → ℕ → List ℕ → (Progress → Reply → Type 0) → Option Item → Progress → Type 0
Ends c now k E row p = (kind : Change) (counts : Bool) (v : Option (List ℕ)) (r : Reply) → E (changed c now k kind row v (counted counts row p)) r

-- One step, of the operation o on the key k, which waits in the progress p.
module _ (c : CacheConfig) (now : ℕ) (k : List ℕ) (o : Op) (W : Request → Progress → Type 0) (E : Progress → Reply → Type 0) (p : Progress) (asks : (q : Request) → IsOf (record { key = k; op = o }) q → W q p) where
  abbrev To : ℕ → Run → Type 0
  To n run = Goes W E n run

  more : (m n : ℕ) (run : Run) → m ≤ n → To m run → To n run
  more = goes-more W E

  live-loads : asks_loader (live_line o).asks ≡ true → may_load o ≡ true
  live-loads e = grind (arith, common_steps)

  absent-loads : asks_loader (absent_line o).asks ≡ true → may_load o ≡ true
  absent-loads e = grind (arith, common_steps)

  invokes-loads : (i : ℕ × List ℕ) → invoked_by o ≡ Some i → may_load o ≡ true
  invokes-loads i e = grind (arith, common_steps)

  by_writer-goes : (a : Ask) (v : Option (List ℕ)) (done : Run) → E p (Fault by.Writer None) → To 0 done → To 1 (by_writer c now k a v p done)
  by_writer-goes a v done fails g = let waits = more 0 1 done (omega arith) g in grind (arith, common_steps)

  load-goes : (n : ℕ) (failed : Run) (next : Option (List ℕ) → Run) → may_load o ≡ true → To n failed → ((v : Option (List ℕ)) → To n (next v)) → To (n + 1) (load c k p failed next)
  load-goes n failed next may f g = let waits = more n (n + 1) (next None) (omega arith) (g None) in grind (arith, common_steps)

  load_for-goes : (n processor : ℕ) (failed : Run) (next : Option (List ℕ) → Run) → may_load o ≡ true → To n failed → ((v : Option (List ℕ)) → To n (next v)) → To (n + 1) (load_for c processor k p failed next)
  load_for-goes n processor failed next may f g = grind (arith, load-goes, more, common_steps)

  process-goes : (n processor : ℕ) (v : Option (List ℕ)) (argument : List ℕ) (failed : Run) (next : Verdict → Run) → invoked_by o ≡ Some (processor, argument) → To n failed → ((v : Verdict) → To n (next v)) → To (n + 1) (process k processor v argument p failed next)
  process-goes n processor v argument failed next is f g = grind (arith, common_steps)

  by_loader-goes : (l : TableLine) (row : Option Item) → may_load o ≡ true → Ends c now k E row p → To 1 (by_loader c now k l row p)
  by_loader-goes l row may ends =
      let kept = ends change.Keep l.counts None in
      let given = ends l.change l.counts in
      load-goes 0 (failed_by c now k l row by.Loader p) _ may (kept _) (λ loaded. grind (arith, common_steps))

  acted-goes : (l : TableLine) (row : Option Item) (v answer : Option (List ℕ)) → Ends c now k E row p → To 1 (acted c now k l row v answer p)
  acted-goes l row v answer ends =
      by_writer-goes l.asks v (ended_by c now k l row v answer p) (ends change.Keep false None _) (ends l.change l.counts v _)

  by_processor-goes : (processor : ℕ) (argument : List ℕ) (l : TableLine) (row : Option Item) → invoked_by o ≡ Some (processor, argument) → Ends c now k E row p → To 3 (by_processor c now k processor argument l row p)
  by_processor-goes processor argument l (Some x) is ends =
      more 2 3 (by_processor c now k processor argument l (Some x) p) (omega arith)
      (process-goes 1 processor (Some x.value) argument (failed_by c now k l (Some x) by.Processor p) (λ v. act_live c now k x p v.action v.answer) is (ends change.Keep l.counts None _)
      (λ v. acted-goes (live_verdict v.action) (Some x) (decided None v.action) v.answer ends))
  by_processor-goes processor argument l None is ends =
      load_for-goes 2 processor (failed_by c now k l None by.Loader p) _ (invokes-loads (processor, argument) is) (ends change.Keep l.counts None _)
      (λ loaded. process-goes 1 processor loaded argument (failed_by c now k l None by.Processor p) (λ v. act_absent c now k loaded p v.action v.answer) is (ends change.Keep l.counts None _)
      (λ v. acted-goes (absent_verdict v.action) None (decided loaded v.action) v.answer ends))

  -- a line of the operation, or one that does not ask the loader
  carried-goes : (l : TableLine) (row : Option Item) → (asks_loader l.asks ≡ true → may_load o ≡ true) → Ends c now k E row p → To 3 (carried c now k o l row p)
  carried-goes l row may ends = by l.asks may
    where
      written : (a : Ask) → To 3 (by_writer c now k a (value_of o) p (ended_by c now k l row (value_of o) (live_in row) p))
      written a = more 1 3 _ (omega arith) (by_writer-goes a (value_of o) _ (ends change.Keep false None _) (ends l.change l.counts (value_of o) _))

      by : (a : Ask) → (asks_loader a ≡ true → may_load o ≡ true) → To 3 (by_ask c now k a o l row p)
      by ask.Load may = more 1 3 _ (omega arith) (by_loader-goes l row (may refl) ends)
      by ask.Process may = let given = by_processor-goes in grind (arith, common_steps)
      by ask.Nothing may = written ask.Nothing
      by ask.Write may = written ask.Write
      by ask.Delete may = written ask.Delete

  on_row-goes : (row : Option Item) → Ends c now k E row p → To 3 (on_row c now (record { key = k; op = o }) row p)
  on_row-goes None ends = carried-goes (absent_line o) None absent-loads ends
  on_row-goes (Some x) ends = by (expected_by o)
    where
      by : (e : Option (List ℕ)) → To 3 (expecting e x.value (carried c now k o (live_line o) (Some x) p) (carried c now k o otherwise (Some x) p))
      by e =
          let live = carried-goes (live_line o) (Some x) live-loads ends in
          let other = carried-goes otherwise (Some x) (λ e. absurd (cc)) ends in
          grind (arith, common_steps)

pub step-goes : (c : CacheConfig) (now : ℕ) (W : Request → Progress → Type 0) (E : Progress → Reply → Type 0) (call : KeyCall) (p : Progress) → ((q : Request) → IsOf call q → W q (purge c now call.key p))
    → Ends c now call.key E (find_row call.key (purge c now call.key p)) (purge c now call.key p) → Goes W E 3 (step c now call p)
step-goes c now W E call p asks ends = on_row-goes c now call.key call.op W E (purge c now call.key p) asks (find_row call.key (purge c now call.key p)) ends

-- Calls on many keys, and whole calls. C holds of each of their steps, I at the beginning, between the steps and in the end.
module _ (c : CacheConfig) (now : ℕ) (W : Request → Progress → Type 0) (C : KeyCall → Type 0) (I : Progress → Type 0) where
  abbrev pub To' : ℕ → Run → Type 0
  To' n run = Goes W (λ p r. I p) n run

  abbrev pub Steps : Type 0
  Steps = (call : KeyCall) (p : Progress) → C call → I p → To' 3 (step c now call p)

  pub after_key-goes : (k : List ℕ) (go_on : Sum → Progress → Run) (sum : Sum) (n : ℕ) (p : Progress) (r : Reply) → I p → ((next : Sum) → To' n (go_on next p)) → To' n (after_key k go_on sum p r)
  after_key-goes k go_on sum n p r i rest = grind (arith, common_steps)

  pub each-goes : Steps → (calls : List KeyCall) (sum : Sum) (p : Progress) → All C calls → I p → To' (3 * length calls) (each c now calls sum p)
  each-goes steps [] sum p fit i = i
  each-goes steps (call ∷ calls) sum p fit i =
      goes-more W (λ q r. I q) (3 + 3 * length calls) _ _ (omega arith)
      (goes-and_then W (λ q r. I q) (λ q r. I q) 3 (3 * length calls) _ _ (steps call p (All-head C call calls fit) i)
      (λ q r j. after_key-goes call.key (λ next q. each c now calls next q) sum (3 * length calls) q r j (λ next. each-goes steps calls next q (All-tail C call calls fit) j)))

  -- C holds of the steps of a plan, I of what it changes at once
  abbrev pub Planned : Plan → Type 0
  Planned (one k o) = C (record { key = k; op = o })
  Planned (many calls gathered) = All C calls
  Planned (at_once p r) = I p

  pub carried_out-goes : Steps → (todo : Plan) (p : Progress) → Planned todo → I p → To' (asked_by todo) (carried_out c now todo p)
  carried_out-goes steps (one k o) p fit i = steps (record { key = k; op = o }) p fit i
  carried_out-goes steps (many calls gathered) p fit i = each-goes steps calls (empty_sum gathered) p fit i
  carried_out-goes steps (at_once q r) p fit i = fit

  -- its notices are told
  abbrev pub Tells : Type 0
  Tells = (p : Progress) → I p → I (begun p.state) × W (request.Tell p.notices) (begun p.state)

  told_first-goes : Tells → (p : Progress) (r : Reply) → I p → To' 1 (told_first p r)
  told_first-goes tells p r i = grind (arith, common_steps)

  pub whole-goes : Steps → Tells → (call : Call) (s : State) → Planned (plan c now call (begun s)) → I (begun s) → To' (asked_by (plan c now call (begun s)) + 1) (whole c now call s)
  whole-goes steps tells call s fit i = grind (arith, goes-and_then, carried_out-goes, told_first-goes)

-- the most requests of a whole call
pub whole-within : (c : CacheConfig) (now : ℕ) (call : Call) (s : State) → Within (asked_by (plan c now call (begun s)) + 1) (whole c now call s)
whole-within c now call s =
    goes-within Any (λ p r. Unit {0}) _ (whole c now call s)
    (whole-goes c now Any (λ call. Unit {0}) (λ p. Unit {0}) (λ call p fit i. step-goes c now Any (λ p r. Unit {0}) call p (λ q of. tt) (λ kind counts v r. tt)) (λ p i. (tt, tt)) call s (free (plan c now call (begun s))) tt)
  where
    Any : Request → Progress → Type 0
    Any q p = Unit {0}

    free : (todo : Plan) → Planned c now Any (λ call. Unit {0}) (λ p. Unit {0}) todo
    free todo = grind (arith, common_steps)

-- A processor's step: what each answer leads to.
use Rattle.jc_ops.proofs.Names.{◌≡◌, ℕ, arith, Bool, false, true, List, common_steps, refl, sym, ◌∙◌, ap, Option, Some, None, is_some, Answer, KeyCall, Request, CacheConfig, TableLine, Item}
use Rattle.jc_ops.proofs.Names.{Progress, find_row, purge, Run}
use Rattle.jc_ops.proofs.Names.{ended, resume, verdict_of, ended_by, KeyWait, key_run, step, FoundRow, given_by, loaded_in, verdict_in, asks_writer, StepWaits}
use Rattle.jc_ops.proofs.Names.{IsWaiting, stores_by, subst, is_written, answer_run, Visited, progress_in}
use Rattle.jc_ops.proofs.Names.{hands_by, verdict_line, act_on, judged_on}
use Rattle.jc_model.specs.declared.call.Answer.TheVariants.{Loaded, Written, Processed}
use Rattle.jc_model.specs.declared.call.By.TheVariants.{Writer}
use Rattle.jc_model.specs.declared.call.Op.TheVariants.{Invoke}
use Rattle.jc_model.specs.declared.call.Reply.TheVariants.{Fault}
use Rattle.jc_model.specs.declared.call.Request.TheVariants.{Process}
use Rattle.jc_model.specs.declared.call.Verdict.{Verdict}
use Rattle.std.specs.Prelude.{Ok, ◌||◌}
use Rattle.jc_model.specs.Run.{answered}
use Rattle.jc_ops.specs.Lines.{awaits_load, loads_for}
use Rattle.jc_ops.specs.declared.supply.Supply.{Supply}
use Rattle.jc_ops.specs.Noted.{stored_value}
use Rattle.jc_ops.specs.Carried.{IsReady, judged_run, line_run}
use Rattle.jc_ops.proofs.Goes.{waits_purged, row_is_there}

-- what its answers say of a step
pub decided_by : (loaded : Option (Option (List ℕ))) (verdict : Option Verdict) → verdict_in (given_by loaded verdict) ≡ verdict
decided_by loaded verdict = grind (arith, common_steps)

-- the step with its verdict is the one that has one answer more
with_verdict : (run : Run) (loaded : Option (Option (List ℕ))) (v : Verdict) → answered run (given_by loaded (Some v)) ≡ resume (answered run (given_by loaded None)) (Processed (Ok v))
with_verdict run loaded v = grind (arith, common_steps)

-- whether the loader is awaited

pub awaited : (c : CacheConfig) (processor : ℕ) (row : Option Item) (loaded : Option (Option (List ℕ))) → awaits_load c processor (is_some row || is_some loaded) ≡ true →
    (row ≡ None) × (loaded ≡ None) × (loads_for c processor ≡ true)
awaited c processor None None h = (refl, refl, h)
awaited c processor None (Some l) h = cc
awaited c processor (Some x) loaded h = cc

-- by what the code has of the row and the answer
pub awaits_by : (c f : CacheConfig) (processor : ℕ) (there answered x y r : Bool) → f ≡ c → there ≡ x → answered ≡ y → r ≡ awaits_load f processor (x || y) →
    awaits_load c processor (there || answered) ≡ r
awaits_by c f processor there answered x y r same a b is = cc

module _ (c : CacheConfig) (now : ℕ) (k : List ℕ) where
  -- A verdict asks the writer, or ends at once. By what the code has: the line, whether the key has a row, and the copy for the writer.

  module _ (row : Option Item) (loaded : Option (List ℕ)) (p : Progress) (v : Verdict) (there : Bool) (has : is_some row ≡ there) (l : TableLine) (line : l ≡ verdict_line v.action there) where
    module _ (f : CacheConfig) (same : f ≡ c) (copy : Option (List ℕ)) (copied : copy ≡ hands_by c.writer v.action) where
      pub acts_at_once : (stored : Option (List ℕ)) → asks_writer f k l.asks copy ≡ None → stored ≡ stores_by c.writer loaded v.action →
          act_on c now k row loaded p v ≡ ended_by c now k l row stored v.answer p
      acts_at_once stored asks stores = grind (arith, common_steps)

      pub acts_waiting : (q : Request) (u : KeyWait) → asks_writer f k l.asks copy ≡ Some q → key_run c p u ≡ act_on c now k row loaded p v → StepWaits c p q u (key_run c p u)
      acts_waiting q u asks means = grind (arith, common_steps)

-- A step that waits, by what it was given.

abbrev wait : ℕ → List ℕ → ℕ → List ℕ → Option (Option (List ℕ)) → Option Verdict → KeyWait
wait now k processor argument loaded verdict = record { now = now; call = record { key = k; op = Invoke processor argument }; given = given_by loaded verdict }

module _ (c : CacheConfig) (now : ℕ) (k : List ℕ) (processor : ℕ) (argument : List ℕ) (p : Progress) (gone : purge c now k p ≡ p) where
  goes_on : (loaded : Option (List ℕ)) → IsWaiting c p (wait now k processor argument None None) → find_row k p ≡ None → loads_for c processor ≡ true →
      StepWaits c p (Process k processor loaded argument) (wait now k processor argument (Some loaded) None) (resume (key_run c p (wait now k processor argument None None)) (Loaded loaded))
  goes_on loaded h absent wants = grind (arith, common_steps)

  module _ (loaded : Option (Option (List ℕ))) where
    judged : (a : Answer) → IsWaiting c p (wait now k processor argument loaded None) → awaits_load c processor (is_some (find_row k p) || is_some loaded) ≡ false →
        resume (key_run c p (wait now k processor argument loaded None)) a ≡ judged_on c now k (find_row k p) (loaded_in (given_by loaded None)) p (verdict_of a)
    judged a h asks = grind (arith, common_steps)

    module _ (v : Verdict) (h : IsWaiting c p (wait now k processor argument loaded (Some v))) where
      failed : (a : Answer) → (a ≡ Written → ⊥) → resume (key_run c p (wait now k processor argument loaded (Some v))) a ≡ ended p (Fault Writer None)
      failed a fails = grind (arith, common_steps)

      agreed : (l : TableLine) (stored : Option (List ℕ)) → l ≡ verdict_line v.action (is_some (find_row k p)) → stored ≡ stores_by false (loaded_in (given_by loaded (Some v))) v.action →
          resume (key_run c p (wait now k processor argument loaded (Some v))) Written ≡ ended_by c now k l (find_row k p) stored v.answer p
      agreed l stored line stores = grind (arith, common_steps)

-- By what the code has of such a step on a visit.

module _ (v : Visited) (now : ℕ) (call : KeyCall) (loaded : Option (Option (List ℕ))) (verdict : Option Verdict) (w : KeyWait)
    (view : ◌≡◌ {A = KeyWait} (record { now = now; call = call; given = given_by loaded verdict }) w) (n : ℕ) (a : Answer) (s : Supply) (ready : IsReady v n w a s) where
  abbrev p : Progress
  p = progress_in v

  has : is_some (find_row call.key p) ≡ is_some s.row
  has = row_is_there call.key v.cache s.row (subst (λ (k : List ℕ). FoundRow k v.cache s.row) (sym (ap (λ (x : KeyWait). x.call.key) view)) ready.row)

  -- the processor has answered
  module _ (undecided : verdict_in w.given ≡ None) (means : answer_run v w a ≡ judged_run v w (verdict_of a)) (d : Verdict) (gave : a ≡ Processed (Ok d))
      (l : TableLine) (line : l ≡ verdict_line d.action (is_some s.row)) (f : CacheConfig) (same : f ≡ v.cache.config) where
    decides : answer_run v w a ≡ act_on v.cache.config v.moment call.key (find_row call.key p) (loaded_in w.given) p d
    decides = rw (ap (λ (x : KeyWait). x.call.key) view) (means ∙ ap (judged_run v w) (ap verdict_of gave))

    pub verdict_ends : asks_writer f call.key l.asks s.values.copy ≡ None → answer_run v w a ≡ line_run v call.key l s.values
    verdict_ends asks =
        let cov = ready.covered.judged d (ap verdict_of gave) in
        decides ∙ rw cov.shown (acts_at_once v.cache.config v.moment call.key (find_row call.key p) (loaded_in w.given) p d (is_some s.row) has l line f same s.values.copy cov.copy _ asks cov.stored)

    pub verdict_waits : (q : Request) → asks_writer f call.key l.asks s.values.copy ≡ Some q →
        StepWaits v.cache.config p q (record { now = now; call = call; given = given_by loaded (Some d) }) (answer_run v w a)
    verdict_waits q asks =
        let cov = ready.covered.judged d (ap verdict_of gave) in
        let none : verdict ≡ None = sym (decided_by loaded verdict) ∙ (ap (λ (x : KeyWait). verdict_in x.given) view ∙ undecided) in
        let after : key_run v.cache.config p (record { now = now; call = call; given = given_by loaded (Some d) }) ≡ answer_run v w a =
        rw (← view, gave, none) (with_verdict (step v.cache.config now call p) loaded d) in
        subst (λ (run : Run). StepWaits v.cache.config p q (record { now = now; call = call; given = given_by loaded (Some d) }) run) after
        (acts_waiting v.cache.config v.moment call.key (find_row call.key p) (loaded_in w.given) p d (is_some s.row) has l line f same s.values.copy cov.copy q _ asks (after ∙ decides))

  module _ (processor : ℕ) (argument : List ℕ) (invoke : w.call.op ≡ Invoke processor argument) where
    abbrev is : Option (Option (List ℕ)) → Option Verdict → KeyWait
    is = wait v.moment call.key processor argument

    same : (l : Option (Option (List ℕ))) (d : Option Verdict) → loaded ≡ l → verdict ≡ d → is l d ≡ w
    same l d gave decided = rw (← ready.waits.moment, ← view, ap (λ (x : KeyWait). x.call.op) view ∙ invoke, gave, decided)

    waits : (l : Option (Option (List ℕ))) (d : Option Verdict) → loaded ≡ l → verdict ≡ d → IsWaiting v.cache.config p (is l d)
    waits l d gave decided = subst (λ (x : KeyWait). IsWaiting v.cache.config p x) (sym (same l d gave decided)) ready.waits.waits

    gone : (l : Option (Option (List ℕ))) (d : Option Verdict) → loaded ≡ l → verdict ≡ d → purge v.cache.config v.moment call.key p ≡ p
    gone l d gave decided = waits_purged v.cache.config p (is l d) (waits l d gave decided)

    pub loader_gave : (o : Option (List ℕ)) → a ≡ Loaded o → verdict ≡ None → awaits_load v.cache.config processor (is_some s.row || is_some loaded) ≡ true →
        StepWaits v.cache.config p (Process call.key processor o argument) (record { now = now; call = call; given = given_by (Some o) verdict }) (answer_run v w a)
    loader_gave o gave none asks =
        let free = awaited v.cache.config processor (find_row call.key p) loaded (rw has asks) in
        let asked : is (Some o) None ≡ record { now = now; call = call; given = given_by (Some o) verdict } =
        rw (← ready.waits.moment, ← view, ap (λ (x : KeyWait). x.call.op) view ∙ invoke, none) in
        subst (λ (x : KeyWait). StepWaits v.cache.config p (Process call.key processor o argument) x (answer_run v w a)) asked (rw (gave, ← same None None free.1 none)
        (goes_on v.cache.config v.moment call.key processor argument p (gone None None free.1 none) o (waits None None free.1 none) free.0 free.2))

    pub processor_answered : verdict ≡ None → awaits_load v.cache.config processor (is_some s.row || is_some loaded) ≡ false → answer_run v w a ≡ judged_run v w (verdict_of a)
    processor_answered none asks = rw (← same loaded None refl none)
        (judged v.cache.config v.moment call.key processor argument p (gone loaded None refl none) loaded a (waits loaded None refl none) (rw has asks))

    module _ (d : Verdict) (decided : verdict ≡ Some d) where
      pub writer_failed : (a ≡ Written → ⊥) → answer_run v w a ≡ ended p (Fault Writer None)
      writer_failed fails = rw (← same loaded (Some d) refl decided)
          (failed v.cache.config v.moment call.key processor argument p (gone loaded (Some d) refl decided) loaded d (waits loaded (Some d) refl decided) a fails)

      pub writer_agreed : (l : TableLine) → a ≡ Written → l ≡ verdict_line d.action (is_some s.row) → answer_run v w a ≡ line_run v call.key l s.values
      writer_agreed l wrote line =
          let here = same loaded (Some d) refl decided in
          let gave = ready.covered.agreed (ap is_written wrote) d (ap (λ (x : KeyWait). verdict_in x.given) (sym here) ∙ decided_by loaded (Some d)) in
          let stores = subst (λ (x : KeyWait). stored_value s.values.stored ≡ stores_by false (loaded_in x.given) d.action) (sym here) gave.stored in
          rw (wrote, ← here, gave.shown) (agreed v.cache.config v.moment call.key processor argument p (gone loaded (Some d) refl decided) loaded d (waits loaded (Some d) refl decided) l
          (stored_value s.values.stored) (rw has line) stores)

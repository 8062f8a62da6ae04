-- A call on many keys, by what its next step comes to; and a call by its plan.
use Rattle.std.proofs.Common.{◌≡◌, ℕ, false, List, ◌∷◌, None, Option, refl, ◌∙◌, Some, IfSome}
use Rattle.jc_bulk.proofs.Names.{Answer, KeyCall, Reply, Request, CacheConfig, Progress, Run, ended, Awaited, and_then, resume, awaited_by, Sum, with_key, ends_call, step, after_key, each, KeyWait, key_run, StepWaits, IsWaiting, WaitsIn, WaitsOn, IsSuspendedIn, wait_run, AreCovered, empty_sum}
use Rattle.jc_bulk.proofs.Names.{Visited, IsUnchanged, progress_in, Ahead, calls_ahead, sum_of, waits_of, StepsTo, step_run, answer_run, plan_in, call_run}
use Rattle.jc_model.specs.declared.call.Call.{Call}
use Rattle.jc_ops.specs.declared.step.Next.{Next}
use Rattle.jc_model.specs.Whole.{Plan, one, many, at_once, key_step, steps_in, gathers, is_at_once, carried_out}

-- what comes after a step on this key, where these steps are ahead
abbrev pub afterwards : CacheConfig → ℕ → List ℕ → Ahead → Progress → Reply → Run
afterwards c now key a = after_key key (λ next q. each c now (calls_ahead a) next q) (sum_of a.sum)

-- where the step waits, the call waits
pub step_waits : (c : CacheConfig) (now : ℕ) (call : KeyCall) (w : KeyWait) (a : Ahead) (run : Run) (p : Progress) (request : Request) → (w.now ≡ now) × (w.call ≡ call) → StepWaits c p request w run → AreCovered c p.state.ring a.rest.items
    → WaitsOn c p request (waits_of (awaited_by request) w (Some a)) (and_then run (afterwards c now call.key a))
step_waits c now call w a run p request stays is covered = record {
  resumed = λ answer. and_then (is.resumed answer) (afterwards c now call.key a);
  run_is = rw is.run_is;
  meaning = rw (is.meaning, stays.0, stays.1);
  awaits = refl;
  held = (record { request = request; resumed = is.resumed; run_is = is.meaning ∙ is.run_is }, covered);
}

-- the step that waits of a call does so itself, whether or not others are ahead
pub step_of_call : (awaits : Awaited) (v : Visited) (w : KeyWait) (ahead : Option Ahead) → IsSuspendedIn v (waits_of awaits w ahead) → WaitsIn v w
step_of_call awaits v w None h = record { waits = record { request = h.suspended.request; resumed = h.suspended.resumed; run_is = h.suspended.run_is }; moment = h.moment }
step_of_call awaits v w (Some a) h = record { waits = h.suspended.held.0; moment = h.moment }

-- where the step has ended and no fault ends the call, the call goes on with those after it
pub step_ended : (c : CacheConfig) (now : ℕ) (call : KeyCall) (calls : List KeyCall) (sum sum' : Sum) (p q : Progress) (r : Reply) → step c now call p ≡ ended q r → ends_call r ≡ None → sum' ≡ with_key call.key r sum → each c now calls sum' q ≡ each c now (call ∷ calls) sum p
step_ended c now call calls sum sum' p q r run none added = rw (run, none, after_key, added)

-- where a call on one key waits
pub waits_alone : (c : CacheConfig) (w : KeyWait) (run : Run) (p : Progress) (request : Request) → StepWaits c p request w run → WaitsOn c p request (waits_of (awaited_by request) w None) run
waits_alone c w run p request is = record { resumed = is.resumed; run_is = is.run_is; meaning = is.meaning; awaits = refl; held = tt }

-- an answer goes to the step that waits, and where it waits again, so does the call
pub waits_again : (awaits : Awaited) (c : CacheConfig) (p q : Progress) (w step : KeyWait) (ahead : Option Ahead) (request : Request) (a : Answer) → IsWaiting c p w → (step.now ≡ w.now) × (step.call ≡ w.call)
    → StepWaits c q request step (resume (key_run c p w) a) → IfSome ahead (λ r. AreCovered c q.state.ring r.rest.items)
    → WaitsOn c q request (waits_of (awaited_by request) step ahead) (resume (wait_run c p (waits_of awaits w ahead).wait) a)
waits_again awaits c p q w step None request a waits stays is covered = waits_alone c step _ q request is
waits_again awaits c p q w step (Some r) request a waits stays is covered = rw waits.run_is (step_waits c w.now w.call step r _ q request stays (rw waits.run_is at is) covered)

-- A call with steps, by its plan.

module _ (c : CacheConfig) (now : ℕ) (p : Progress) where
  one_step : (todo : Plan) (part : KeyCall) → key_step todo ≡ Some part → carried_out c now todo p ≡ step c now part p
  one_step (one k o) part e = cc
  one_step (many calls gathered) part e = cc
  one_step (at_once q r) part e = cc

  pub many_steps : (todo : Plan) → key_step todo ≡ None → is_at_once todo ≡ false → each c now (steps_in todo) (empty_sum (gathers todo)) p ≡ carried_out c now todo p
  many_steps (one k o) none steps = cc
  many_steps (many calls gathered) none steps = refl
  many_steps (at_once q r) none steps = cc

-- what is so of a visit, by its configuration, its moment and its progress, was so before, where nothing has changed
as_before : (P : CacheConfig → ℕ → Progress → Type 0) (v w : Visited) → IsUnchanged v w → P w.cache.config w.moment (progress_in w) → P v.cache.config v.moment (progress_in v)
as_before P v w same h = rw (same.cache, same.told, same.moment) at h

module _ (v w : Visited) (same : IsUnchanged v w) (next : Next KeyWait Reply) (after : Progress) where
  -- a call on one key does as its step
  pub call_steps : (call : Call) (part : KeyCall) → key_step (plan_in v call) ≡ Some part → StepsTo w.cache.config (step_run w part) next after → StepsTo v.cache.config (call_run v call) next after
  call_steps call part is h =
      rw (one_step v.cache.config v.moment (progress_in v) (plan_in v call) part is) (as_before (λ c now p. StepsTo c (step c now part p) next after) v w same h)

  pub answer_steps : (s : KeyWait) (a : Answer) → StepsTo w.cache.config (answer_run w s a) next after → StepsTo v.cache.config (answer_run v s a) next after
  answer_steps s a h = as_before (λ c now p. StepsTo c (resume (key_run c p s) a) next after) v w same h

-- No request of a step awaits that notices were told: they are told after the last step.
use Rattle.std.proofs.Common.{◌≡◌, ◌≢◌, ℕ, ◌*◌, true, List, [], length, sym, subst, ◌∙◌, arith}
use Rattle.jc_engine.proofs.Names.{common_steps, Answer, Request, CacheConfig, Progress, Run, waiting, resume, answered, told_by, Awaited, for_tell, awaited_by, fits, Plan, each, carried_out, Wait, telling, key_run, Waits}
use Rattle.jc_engine.proofs.Names.{wait_run, IsSuspended, NeverTells, one_key, many_keys}
use Rattle.jc_model.specs.declared.call.KeyCall.{KeyCall}
use Rattle.jc_model.specs.declared.call.Reply.{Reply}
use Rattle.jc_model.specs.Step.{step}
use Rattle.jc_model.specs.Everywhere.{IsOf}
use Rattle.jc_model.proofs.Everywhere.{at_each-resume, at_each-answered, at_each-and_then, goes-at_each}
use Rattle.jc_model.proofs.Law.{Steps, Planned, step-goes, after_key-goes, each-goes, carried_out-goes}

abbrev Quiet : Request → Progress → Type 0
Quiet q p = awaited_by q ≢ for_tell

abbrev Any : {A : Type 0} → A → Type 0
Any x = Unit {0}

abbrev End : Progress → Reply → Type 0
End p r = Unit {0}

-- a request that does not await this tells nothing
pub tells_nothing : (q : Request) → awaited_by q ≢ for_tell → told_by q ≡ []
tells_nothing q quiet = grind (arith, common_steps)

quiet : (call : KeyCall) (q : Request) (p : Progress) → IsOf call q → Quiet q p
quiet call q p of = grind (arith, common_steps)

module _ (c : CacheConfig) (now : ℕ) where
  steps : Steps c now Quiet Any Any
  steps call p any i = step-goes c now Quiet End call p (λ q of. quiet call q p of) (λ kind counts v r. tt)

  pub carried_out-untold : (todo : Plan) (p : Progress) → NeverTells (carried_out c now todo p)
  carried_out-untold todo p = goes-at_each Quiet End _ (carried_out c now todo p) (carried_out-goes c now Quiet Any Any steps todo p (free todo) tt)
    where
      free : (todo : Plan) → Planned c now Quiet Any Any todo
      free todo = grind (arith, common_steps)

  key_run-untold : (call : KeyCall) (p : Progress) (given : List Answer) → NeverTells (answered (step c now call p) given)
  key_run-untold call p given = at_each-answered Quiet End (step c now call p) given (goes-at_each Quiet End 3 (step c now call p) (steps call p tt tt))

pub resume-untold : (run : Run) (a : Answer) → NeverTells run → NeverTells (resume run a)
resume-untold = at_each-resume Quiet End

pub wait_run-untold : (c : CacheConfig) (p : Progress) (w : Wait) → NeverTells (wait_run c p w)
wait_run-untold c p (one_key w) = key_run-untold c w.now w.call p w.given
wait_run-untold c p (many_keys w) =
    at_each-and_then Quiet End End (key_run c p w.key) _ (key_run-untold c w.key.now w.key.call p w.key.given)
    (λ q r i. goes-at_each Quiet End (3 * length w.rest) _
    (after_key-goes c w.key.now Quiet Any Any w.key.call.key (λ next q. each c w.key.now w.rest next q) w.sum (3 * length w.rest) q r tt (λ next. each-goes c w.key.now Quiet Any Any (steps c w.key.now) w.rest next q (λ k d below. tt) tt)))
wait_run-untold c p (telling r) = tt

-- a suspended call does not take it for an answer that notices were told
pub not_told : (c : CacheConfig) (p : Progress) (s : Waits) (a : Answer) → IsSuspended c p s → fits s.awaits a ≡ true → fits for_tell a ≡ true → ⊥
not_told c p s a there fit told =
    let never : NeverTells (waiting there.request p there.resumed) = subst NeverTells there.run_is (wait_run-untold c p s.wait) in
    never.0 (sym there.awaits ∙ same s.awaits a fit told)
  where
    same : (w : Awaited) (a : Answer) → fits w a ≡ true → fits for_tell a ≡ true → w ≡ for_tell
    same w a fit told = grind (arith, common_steps)

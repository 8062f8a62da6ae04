-- What a call has come to.
use Rattle.std.specs.Prelude.{◌≡◌, List}
use Rattle.jc_model.specs.declared.call.Answer.{Answer}
use Rattle.jc_model.specs.declared.call.Call.{Call}
use Rattle.jc_model.specs.declared.call.KeyCall.{KeyCall}
use Rattle.jc_model.specs.declared.call.Reply.{Reply}
use Rattle.jc_model.specs.declared.call.Request.{Request}
use Rattle.jc_model.specs.declared.config.CacheConfig.{CacheConfig}
use Rattle.jc_model.specs.Bulk.{Sum, empty_sum}
use Rattle.jc_model.specs.Changes.{Progress}
use Rattle.jc_model.specs.Run.{Run, ended, waiting, resume, awaited_by}
use Rattle.jc_model.specs.Suspended.{Wait, one, many, telling, key_run, bulk_run}
use Rattle.jc_model.specs.Whole.{Plan, plan, steps_in, gathers, carried_out}
use Rattle.jc_ops.specs.Visited.{Visited, progress_in}
use Rattle.jc_ops.specs.declared.step.Next.{Next}
use Rattle.jc_ops.specs.declared.step.Next.TheVariants.{Ended, Waiting}
use Rattle.jc_ops.specs.Stepped.{IsWaiting}
use Rattle.jc_bulk.specs.Provided.{AreCovered}
use Rattle.jc_bulk.specs.Waits.{Waits, moment_of}
use Rattle.jc_bulk.specs.declared.bulk.Provided.{Provided}

abbrev pub wait_run : CacheConfig → Progress → Wait → Run
wait_run c p (one w) = key_run c p w
wait_run c p (many w) = bulk_run c p w
wait_run c p (telling r) = ended p r

-- of a call on many keys one step waits, and the steps after it have their values
abbrev pub IsHeld : CacheConfig → Progress → Wait → List Provided → Type 0
IsHeld c p (one w) stock = Unit {0}
IsHeld c p (many w) stock = IsWaiting c p w.key × AreCovered c p.state.ring stock
IsHeld c p (telling r) stock = Unit {0}

-- the run waits with this request, and the suspended call has it as its own
pub record WaitsOn (c : CacheConfig) (p : Progress) (request : Request) (s : Waits) (run : Run) : Type 0 where
  pub resumed : Answer → Run
  pub run_is : run ≡ waiting request p resumed
  pub meaning : wait_run c p s.wait ≡ run
  pub awaits : s.awaits ≡ awaited_by request
  pub held : IsHeld c p s.wait s.stock

-- the suspended call waits over this progress
pub record IsSuspended (c : CacheConfig) (p : Progress) (s : Waits) : Type 0 where
  pub request : Request
  pub resumed : Answer → Run
  pub run_is : wait_run c p s.wait ≡ waiting request p resumed
  pub awaits : s.awaits ≡ awaited_by request
  pub held : IsHeld c p s.wait s.stock

-- the call does as its run, and has come as far as the run says
abbrev pub ComesTo : CacheConfig → Run → Next Waits Reply → Progress → Type 0
ComesTo c run (Ended reply) p = run ≡ ended p reply
ComesTo c run (Waiting request s) p = WaitsOn c p request s run

-- On a visit.

-- the call does as its run
abbrev pub ComesFrom : Visited → Run → Next Waits Reply → Visited → Type 0
ComesFrom old run next new = ComesTo old.cache.config run next (progress_in new)

-- the run has ended with this reply
abbrev pub EndsFrom : Run → Visited → Reply → Type 0
EndsFrom run new reply = run ≡ ended (progress_in new) reply

-- A call that begins.

abbrev pub plan_in : Visited → Call → Plan
plan_in v call = plan v.cache.config v.moment call (progress_in v)

-- its steps on many keys
abbrev pub steps_for : Visited → Call → List KeyCall
steps_for v call = steps_in (plan_in v call)

-- what is gathered before the first of them
abbrev pub first_sum : Visited → Call → Sum
first_sum v call = empty_sum (gathers (plan_in v call))

-- its run
abbrev pub call_run : Visited → Call → Run
call_run v call = carried_out v.cache.config v.moment (plan_in v call) (progress_in v)

-- A suspended call.

-- the call of this visit waits
pub record IsSuspendedIn (v : Visited) (s : Waits) : Type 0 where
  pub suspended : IsSuspended v.cache.config (progress_in v) s
  pub moment : moment_of s.wait ≡ v.moment

-- its run with the answer
abbrev pub answered_run : Visited → Waits → Answer → Run
answered_run v s a = resume (wait_run v.cache.config (progress_in v) s.wait) a

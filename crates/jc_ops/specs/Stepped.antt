-- How one key's step stands to its run.
use Rattle.std.specs.Prelude.{◌≡◌, ℕ, List, [], Option}
use Rattle.jc_model.specs.declared.call.Answer.{Answer}
use Rattle.jc_model.specs.declared.call.KeyCall.{KeyCall}
use Rattle.jc_model.specs.declared.call.Op.TheVariants.{Get}
use Rattle.jc_model.specs.declared.call.Reply.{Reply}
use Rattle.jc_model.specs.declared.call.Reply.TheVariants.{Found}
use Rattle.jc_model.specs.declared.call.Request.{Request}
use Rattle.jc_model.specs.declared.config.CacheConfig.{CacheConfig}
use Rattle.jc_model.specs.Changes.{Progress}
use Rattle.jc_model.specs.Run.{Run, ended, waiting, resume}
use Rattle.jc_model.specs.Step.{step}
use Rattle.jc_model.specs.Suspended.{KeyWait, key_run}
use Rattle.jc_ops.specs.Visited.{Visited, progress_in}
use Rattle.jc_ops.specs.declared.step.Next.{Next}
use Rattle.jc_ops.specs.declared.step.Next.TheVariants.{Ended, Waiting}

-- a step that waits for its first answer
abbrev pub waits_first : ℕ → KeyCall → KeyWait
waits_first now call = record { now = now; call = call; given = [] }

-- the run waits with this request, and the step that waits has it as its own
pub record StepWaits (c : CacheConfig) (p : Progress) (request : Request) (w : KeyWait) (run : Run) : Type 0 where
  pub resumed : Answer → Run
  pub run_is : run ≡ waiting request p resumed
  pub meaning : key_run c p w ≡ run

-- the step waits over this progress
pub record IsWaiting (c : CacheConfig) (p : Progress) (w : KeyWait) : Type 0 where
  pub request : Request
  pub resumed : Answer → Run
  pub run_is : key_run c p w ≡ waiting request p resumed

-- the step does as its run, and has come as far as the run says
abbrev pub StepsTo : CacheConfig → Run → Next KeyWait Reply → Progress → Type 0
StepsTo c run (Ended reply) p = run ≡ ended p reply
StepsTo c run (Waiting request w) p = StepWaits c p request w run

-- a step that waits is still the step of this call
abbrev pub StaysAt : ℕ → KeyCall → Next KeyWait Reply → Type 0
StaysAt now call (Ended reply) = Unit {0}
StaysAt now call (Waiting request w) = (w.now ≡ now) × (w.call ≡ call)

-- On a visit.

-- the run of a step that begins
abbrev pub step_run : Visited → KeyCall → Run
step_run v call = step v.cache.config v.moment call (progress_in v)

-- and of one that waits, and has its answer
abbrev pub answer_run : Visited → KeyWait → Answer → Run
answer_run v w a = resume (key_run v.cache.config (progress_in v) w) a

-- the step of this visit waits
pub record WaitsIn (v : Visited) (w : KeyWait) : Type 0 where
  pub waits : IsWaiting v.cache.config (progress_in v) w
  pub moment : w.now ≡ v.moment

-- the step does as its run
abbrev pub StepsFrom : Visited → Run → Next KeyWait Reply → Visited → Type 0
StepsFrom old run next new = StepsTo old.cache.config run next (progress_in new)

-- a get of this key ends with this value
abbrev pub GetFinds : Visited → List ℕ → Option (List ℕ) → Visited → Type 0
GetFinds old key value new = step_run old (record { key = key; op = Get }) ≡ ended (progress_in new) (Found value)

-- What a whole run has done.
use Rattle.std.specs.Prelude.{◌≡◌, ℕ, List, slice_get, Option, Some, IfSome, Result, Ok}
use Rattle.jc_model.specs.declared.call.Answer.{Answer}
use Rattle.jc_model.specs.declared.call.Notice.{Notice}
use Rattle.jc_model.specs.declared.call.ProcessorFault.{ProcessorFault}
use Rattle.jc_model.specs.declared.call.Request.{Request}
use Rattle.jc_model.specs.declared.call.Verdict.{Verdict}
use Rattle.jc_model.specs.declared.config.CacheConfig.{CacheConfig}
use Rattle.jc_model.specs.declared.event.Entry.{Entry}
use Rattle.jc_model.specs.Legal.{config_of}
use Rattle.jc_model.specs.Runs.{fresh}
use Rattle.jc_hooks.specs.declared.cache_hooks.CacheHooks.{CacheHooks}
use Rattle.jc_hooks.specs.declared.loader.Loaded.{Loaded}
use Rattle.jc_script.specs.declared.line.Line.{Line}
use Rattle.jc_script.specs.Managing.{lives_of_script}
use Rattle.jc_script.specs.Script.{lines}
use Rattle.jc_runner.specs.Alone.{calls_on, IsAlone, exchanges}
use Rattle.jc_runner.specs.Answering.{HeardAt}
use Rattle.jc_script.specs.declared.line.LineCall.{LineCall}
use Rattle.jc_cli.specs.declared.run.Format.{Format}
use Rattle.jc_runner.specs.Forms.{form_of, IsToldIn}
use Rattle.jc_cli.specs.declared.input.WatchedReader.{WatchedReader}
use Rattle.jc_runner.specs.declared.form.Form.{Form}

module _ {L W P K : Type 0} (load_of : L → List ℕ → Loaded) (may : W → List (Request × Answer) → Type 0) (verdict_of : P → Option (List ℕ) → List ℕ → Result Verdict ProcessorFault) (state_after : K → List Notice → List ℕ) where
  -- the entries of a life alone, its callbacks having answered their requests, and what they state afterwards
  pub record LifeAnswersBy (c : CacheConfig) (own : List LineCall) (entries : List Entry) (old new : Option (CacheHooks L W P K)) : Type 0 where
    pub alone : IsAlone c own entries
    pub heard : HeardAt load_of may verdict_of state_after old new (exchanges c fresh entries)

  -- a text that is the report of each life alone, in a form, under the answers of its callbacks, and of the manager's
  -- lines
  pub record Reports (form : Form) (caches : List CacheConfig) (all : List Line) (old new : List (CacheHooks L W P K)) (text : List ℕ) : Type 0 where
    pub entries : ℕ → List Entry
    pub told : IsToldIn form entries caches all text
    pub each : (id : ℕ) (c : CacheConfig) → config_of id (lives_of_script caches all) ≡ Some c → LifeAnswersBy c (calls_on id all) (entries id) (slice_get old id) (slice_get new id)

  -- the report of the lines of these bytes, of which this is true
  pub record ReportsOf (format : Format) (caches : List CacheConfig) (bytes : List ℕ) (old new : List (CacheHooks L W P K)) (IsSo : List ℕ → Type 0) : Type 0 where
    pub all : List Line
    pub read : lines caches bytes ≡ Ok all
    pub text : List ℕ
    pub reports : Reports (form_of format bytes all) caches all old new text
    pub so : IsSo text

  -- the same of the script that a reader has left
  abbrev pub ReportsInput : {R : Type 0} → (R → Option (List ℕ)) → WatchedReader R → Format → List CacheConfig → List (CacheHooks L W P K) → List (CacheHooks L W P K) → (List ℕ → Type 0) → Type 0
  ReportsInput remaining reader format caches old new IsSo = IfSome (remaining reader.inner) (λ input. ReportsOf format caches input old new IsSo)

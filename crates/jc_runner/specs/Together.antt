-- What a run on worker threads has done.
use Rattle.std.specs.Prelude.{◌≡◌, ℕ, Bool, List, length, map, Option, Result}
use Rattle.jc_hooks.specs.declared.cache_hooks.CacheHooks.{CacheHooks}
use Rattle.jc_hooks.specs.declared.loader.Loaded.{Loaded}
use Rattle.jc_model.specs.declared.call.ProcessorFault.{ProcessorFault}
use Rattle.jc_model.specs.declared.call.Verdict.{Verdict}
use Rattle.jc_model.specs.declared.config.CacheConfig.{CacheConfig}
use Rattle.jc_model.specs.declared.event.CreateRefusal.{CreateRefusal}
use Rattle.jc_model.specs.Legal.{History, IsLegal}
use Rattle.jc_script.specs.declared.line.Line.{Line}
use Rattle.jc_script.specs.declared.managed.Managed.{Managed}
use Rattle.jc_script.specs.Calls.{calls_in_lines}
use Rattle.jc_script.specs.Managing.{lives_of_script, managed_of}
use Rattle.jc_locked.specs.Stated.{Stated, stated_by, shared_of}
use Rattle.jc_threads.specs.Lines.{AreCallsMade}
use Rattle.jc_threads.specs.Managing.{AreManaged}
use Rattle.jc_runner.specs.Forms.{report_in}
use Rattle.jc_runner.specs.Hooks.{AreSuited, CannotOpen}
use Rattle.jc_runner.specs.declared.form.Form.{Form}
use Rattle.jc_runner.specs.declared.threaded_run.Setup.{Setup}

-- why each of these lines was refused, if it was
abbrev pub refusals_of : List Managed → List (Option CreateRefusal)
refusals_of managed = map (λ m. m.refusal) managed

-- what the loaders and processors state that were handed in
abbrev pub stated_of : {L W P K : Type 0} → (L → List ℕ → Loaded) → (P → Option (List ℕ) → List ℕ → Result Verdict ProcessorFault) → List (CacheHooks L W P K) → List Stated
stated_of load_of verdict_of hooks = map (stated_by load_of verdict_of) (map shared_of hooks)

module _ (stated : List Stated) (caches : List CacheConfig) (all : List Line) where
  -- Legal, with the lives that the lines come to. Each session's calls are its lines', each once, in order and with a
  -- reply, under answers that were stated.
  pub record IsMade (transcript : History) : Type 0 where
    pub legal : IsLegal transcript
    pub lives : transcript.lives ≡ lives_of_script caches all
    pub made : AreCallsMade stated (calls_in_lines all) transcript.entries

module _ (form : Form) (stated : List Stated) (caches : List CacheConfig) (all : List Line) where
  -- A text that is the report of such a transcript, and of the manager's lines as they come to, one after the other.
  -- Each that creates a cache has created it, or was refused so.
  pub record Gathers (text : List ℕ) : Type 0 where
    pub transcript : History
    pub is_made : IsMade stated caches all transcript
    pub managed : AreManaged caches all (refusals_of (managed_of caches all))
    pub told : text ≡ report_in form (length caches) transcript (managed_of caches all)

  -- such a text, of which this is true
  pub record GathersSo (IsSo : List ℕ → Type 0) : Type 0 where
    pub text : List ℕ
    pub gathers : Gathers text
    pub so : IsSo text

-- the callbacks of a setup are those that its caches name
abbrev pub SetupSuits : {L W P K : Type 0} → (P → Bool) → Setup L W P K → Type 0
SetupSuits wants setup = AreSuited wants setup.settings setup.hooks.items

-- they differ, or the manager refuses its caches
abbrev pub SetupCannotOpen : {L W P K : Type 0} → (P → Bool) → Setup L W P K → Type 0
SetupCannotOpen wants setup = CannotOpen wants setup.settings setup.hooks.items

-- what is gathered by a manager that was opened with this setup
module _ {L W P K : Type 0} (load_of : L → List ℕ → Loaded) (verdict_of : P → Option (List ℕ) → List ℕ → Result Verdict ProcessorFault) (form : Form) (setup : Setup L W P K) (all : List Line) where
  abbrev pub SetupGathers : List ℕ → Type 0
  SetupGathers text = Gathers form (stated_of load_of verdict_of setup.hooks.items) setup.settings all text

  abbrev pub SetupGathersSo : (List ℕ → Type 0) → Type 0
  SetupGathersSo IsSo = GathersSo form (stated_of load_of verdict_of setup.hooks.items) setup.settings all IsSo

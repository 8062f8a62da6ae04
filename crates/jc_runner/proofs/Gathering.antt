-- A run on worker threads: its callbacks, and what its manager has refused.
use Rattle.std.proofs.Common.{◌≡◌, ℕ, Bool, List, length, map, sym, ap, subst, ◌∙◌, Option, Some, None, Result, Err, true, refl}
use Rattle.std.specs.Prelude.{is_some}
use Rattle.std.specs.Result.{result_err}
use Rattle.std.proofs.lemmas.Bool.{false≢true}
use Rattle.std.proofs.lemmas.Option.{same_Some}
use Rattle.jc_hooks.specs.declared.cache_hooks.CacheHooks.{CacheHooks}
use Rattle.jc_hooks.specs.declared.loader.Loaded.{Loaded}
use Rattle.jc_model.specs.declared.call.ProcessorFault.{ProcessorFault}
use Rattle.jc_model.specs.declared.call.Verdict.{Verdict}
use Rattle.jc_model.specs.declared.config.CacheConfig.{CacheConfig}
use Rattle.jc_model.specs.declared.event.CreateRefusal.{CreateRefusal}
use Rattle.jc_model.specs.Legal.{History, IsLegal}
use Rattle.jc_script.specs.declared.line.Line.{Line}
use Rattle.jc_script.specs.declared.line.LineCall.{LineCall}
use Rattle.jc_script.specs.declared.managed.Managed.{Managed}
use Rattle.jc_script.specs.Calls.{calls_in_lines}
use Rattle.jc_script.specs.Managing.{lives_of_script, managed_of}
use Rattle.jc_locked.specs.declared.hooks.SharedHooks.{SharedHooks}
use Rattle.jc_locked.specs.Stated.{Stated, stated_by, shared_of}
use Rattle.jc_threads.specs.Lines.{AreCallsMade}
use Rattle.jc_threads.specs.Managing.{AreManaged}
use mathlib.Core.Logic.{inl, inr}
use Rattle.jc_engine.specs.Opening.{open_refusal}
use Rattle.jc_engine.specs.declared.open.OpenRefusal.{OpenRefusal}
use Rattle.jc_locked.specs.declared.fault.SharedRefusal.{SharedRefusal}
use Rattle.jc_locked.specs.declared.fault.SharedRefusal.TheVariants.{Caches, HooksDiffer, OutOfMemory}
use Rattle.jc_hooks.specs.Suits.{AllSuit}
use Rattle.jc_locked.specs.Opening.{CanOpen, IsOpeningRefusal}
use Rattle.jc_runner.specs.Hooks.{AreSuited, CannotOpen}
use Rattle.jc_runner.proofs.Suiting.{suited, each_suits}
use Rattle.jc_runner.specs.Forms.{report_in}
use Rattle.jc_runner.specs.Together.{stated_of, refusals_of, Gathers, GathersSo}
use Rattle.jc_runner.specs.declared.form.Form.{Form}
use Rattle.jc_cli.specs.declared.fault.RunFault.{RunFault}

-- Why a shared manager does not open.

module _ {L W P K : Type 0} (wants : P → Bool) where
  pub refused_caches : (caches caches' : List CacheConfig) (hooks : List (CacheHooks L W P K)) (f : SharedRefusal) (r : OpenRefusal) → caches' ≡ caches → f ≡ Caches r → IsOpeningRefusal wants caches' hooks f → CannotOpen wants caches hooks
  refused_caches caches caches' hooks f r same is refused =
      let refused' : open_refusal caches' ≡ Some r = subst (IsOpeningRefusal wants caches' hooks) is refused in inr (ap is_some (ap open_refusal (sym same) ∙ refused'))

  pub refused_hooks : (caches caches' : List CacheConfig) (hooks : List (CacheHooks L W P K)) (f : SharedRefusal) (place : ℕ) → caches' ≡ caches → f ≡ HooksDiffer place → IsOpeningRefusal wants caches' hooks f → CannotOpen wants caches hooks
  refused_hooks caches caches' hooks f place same is refused =
      let refused' : IsOpeningRefusal wants caches hooks (HooksDiffer place) = subst (λ (cs : List CacheConfig). IsOpeningRefusal wants cs hooks (HooksDiffer place)) same (subst (IsOpeningRefusal wants caches' hooks) is refused) in
      inl (λ suits. refused'.1.here (each_suits wants caches hooks suits place))

  pub opened_suits : (caches caches' : List CacheConfig) (hooks : List (CacheHooks L W P K)) → caches' ≡ caches → CanOpen wants caches' hooks → AreSuited wants caches hooks
  opened_suits caches caches' hooks same opens = suited wants caches hooks (subst (λ (cs : List CacheConfig). AllSuit wants cs hooks) same opens.1)

  pub opened_takes : (caches caches' : List CacheConfig) (hooks : List (CacheHooks L W P K)) → caches' ≡ caches → CanOpen wants caches' hooks → CannotOpen wants caches hooks → ⊥
  opened_takes caches caches' hooks same opens cannot =
      elim cannot [
        | inl differ ↦ differ (opened_suits caches caches' hooks same opens)
        | inr closed ↦ absurd (false≢true (ap is_some (sym opens.0 ∙ ap open_refusal same) ∙ closed))
      ]

  pub opens_in_memory : (caches caches' : List CacheConfig) (hooks : List (CacheHooks L W P K)) (f : SharedRefusal) → caches' ≡ caches → f ≡ OutOfMemory → IsOpeningRefusal wants caches' hooks f → CannotOpen wants caches hooks → ⊥
  opens_in_memory caches caches' hooks f same is refused = opened_takes caches caches' hooks same (subst (IsOpeningRefusal wants caches' hooks) is refused)

  -- where nothing forbids to open, the caches are not refused
  pub never_refused : (caches : List CacheConfig) (hooks : List (CacheHooks L W P K)) → (CannotOpen wants caches hooks → ⊥) → open_refusal caches ≡ None
  never_refused caches hooks can = by (open_refusal caches) (λ refused. can (inr refused))
    where
      by : (o : Option OpenRefusal) → (is_some o ≡ true → ⊥) → o ≡ None
      by None never = refl
      by (Some r) never = absurd (never refl)

-- What was refused, line by line.

-- The report of what was made.

module _ (form : Form) (stated : List Stated) (caches : List CacheConfig) (all : List Line) where
  pub gathers : (t : History) (managed : List Managed) (refused : List (Option CreateRefusal)) (bytes : List ℕ) → IsLegal t → t.lives ≡ lives_of_script caches all → AreCallsMade stated (calls_in_lines all) t.entries
      → managed ≡ managed_of caches all → refusals_of managed ≡ refused → AreManaged caches all refused → bytes ≡ report_in form (length caches) t managed → Gathers form stated caches all bytes
  gathers t managed refused bytes legal lives made is_of same answered told = record {
    transcript = t;
    is_made = record { legal = legal; lives = lives; made = made };
    managed = subst (λ (ms : List Managed). AreManaged caches all (refusals_of ms)) is_of (subst (AreManaged caches all) (sym same) answered);
    told = told ∙ ap (report_in form (length caches) t) is_of;
  }

  pub gathers_so : {IsSo : List ℕ → Type 0} (bytes : List ℕ) → Gathers form stated caches all bytes → IsSo bytes → GathersSo form stated caches all IsSo
  gathers_so bytes g so = record { text = bytes; gathers = g; so = so }

-- the answers that were stated, and the transcript that was compared
pub made_of : {L W P K : Type 0} (load_of : L → List ℕ → Loaded) (verdict_of : P → Option (List ℕ) → List ℕ → Result Verdict ProcessorFault) (shared : List (SharedHooks L P)) (hooks : List (CacheHooks L W P K)) (calls : List LineCall) (t t' : History)
    → shared ≡ map shared_of hooks → t ≡ t' → AreCallsMade (map (stated_by load_of verdict_of) shared) calls t'.entries → AreCallsMade (stated_of load_of verdict_of hooks) calls t.entries
made_of load_of verdict_of shared hooks calls t t' handed same made =
    subst (λ (h : History). AreCallsMade (stated_of load_of verdict_of hooks) calls h.entries) (sym same) (subst (λ (ss : List Stated). AreCallsMade ss calls t'.entries) (ap (map (stated_by load_of verdict_of)) handed) made)

-- a fault that was passed on
pub passed_fault : {T : Type 0} (r : Result T RunFault) (e f : RunFault) → (y : RunFault) × (r ≡ Err y) × (y ≡ e) → r ≡ Err f → e ≡ f
passed_fault r e f p is = sym p.2 ∙ same_Some p.0 f (ap result_err (sym p.1 ∙ is))

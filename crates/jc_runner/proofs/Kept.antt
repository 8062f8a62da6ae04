-- Callbacks that a run leaves with their loader and processors, and faults of workers that it tells.
use Rattle.std.proofs.Common.{◌≡◌, ◌≤◌, ℕ, zero, suc, List, [], ◌∷◌, length, map, set, get_or, slice_get, Option, None, Some, Result, Ok, Err, refl, sym, ap, subst, arith}
use Rattle.std.specs.Prelude.{OnOk}
use Rattle.jc_model.specs.declared.call.Answer.{Answer}
use Rattle.jc_model.specs.declared.call.Notice.{Notice}
use Rattle.jc_model.specs.declared.call.ProcessorFault.{ProcessorFault}
use Rattle.jc_model.specs.declared.call.Request.{Request}
use Rattle.jc_model.specs.declared.call.Verdict.{Verdict}
use Rattle.jc_engine.specs.Recording.{Recording}
use Rattle.jc_hooks.specs.declared.cache_hooks.CacheHooks.{CacheHooks}
use Rattle.jc_hooks.specs.declared.loader.Loaded.{Loaded}
use Rattle.jc_script.specs.declared.line.LineCall.{LineCall}
use Rattle.jc_threads.specs.declared.fault.WorkFault.{WorkFault}
use Rattle.jc_threads.specs.declared.fault.WorkFault.TheVariants.{Close, OutOfMemory}
use Rattle.jc_cli.specs.Faults.{of_work}
use Rattle.jc_runner.specs.Halfway.{Replies, RepliesAt}
use Rattle.jc_runner.specs.Hooks.{HasNoHooks}
use Rattle.jc_cli.specs.Streams.{IsOfThreads}
use Rattle.jc_cli.specs.declared.fault.RunFault.{RunFault}
use Rattle.jc_cli.specs.declared.fault.RunFault.TheVariants as run
use Rattle.jc_runner.proofs.Hearing.{none_heard}

pub map_set_same : {A B : Type 0} (f : A → B) (xs : List A) (k : ℕ) (d x : A) → f x ≡ f (get_or xs k d) → map f (set xs k x) ≡ map f xs
map_set_same f [] k d x e = refl
map_set_same f (y ∷ xs) zero d x e = ap (λ z. z ∷ map f xs) e
map_set_same f (y ∷ xs) (suc k) d x e = ap (λ l. f y ∷ l) (map_set_same f xs k d x e)

pub none_there : {A : Type 0} (xs : List A) (i : ℕ) → length xs ≤ i → slice_get xs i ≡ None
none_there [] i out = refl
none_there (x ∷ xs) zero out = absurd (omega (arith, out))
none_there (x ∷ xs) (suc i) out = none_there xs i (omega (arith, out))

pub where_ok : {T E A B : Type 0} (r : Result T E) → (A → B) → OnOk r A → OnOk r B
where_ok (Ok x) f a = f a
where_ok (Err e) f a = tt

-- what workers refuse is a fault of a run by workers, and never that the manager does not open
pub of_threads : (f : WorkFault) → IsOfThreads (of_work f)
of_threads Close = tt
of_threads OutOfMemory = tt

pub never_open : {T : Type 0} (f : WorkFault) (x : RunFault) → x ≡ of_work f → (r : Result T RunFault) → r ≡ Err x → r ≡ Err run.Open → ⊥
never_open Close x is r tells opened = absurd cc
never_open OutOfMemory x is r tells opened = absurd cc

module _ {L W P K : Type 0} (load_of : L → List ℕ → Loaded) (may : W → List (Request × Answer) → Type 0) (verdict_of : P → Option (List ℕ) → List ℕ → Result Verdict ProcessorFault) (state_after : K → List Notice → List ℕ) where
  -- a cache that has no callbacks is answered by none
  pub without : (old new : Recording) (h h' : CacheHooks L W P K) (hooks : List (CacheHooks L W P K)) (l : LineCall) → HasNoHooks h → slice_get hooks l.id ≡ None
      → Replies load_of may verdict_of state_after old new (Some h) (Some h') l → RepliesAt load_of may verdict_of state_after old new hooks hooks l
  without old new h h' hooks l none absent r =
      let it = r.done.reached in
      record {
        replies = subst (λ (o : Option (CacheHooks L W P K)). Replies load_of may verdict_of state_after old new o o l) (sym absent) (record {
          reply = r.reply;
          done = record {
            config = r.done.config;
            state = r.done.state;
            there = r.done.there;
            reached = record { answers = it.answers; fit = it.fit; shows = it.shows; lives = it.lives; begun = it.begun; entries = it.entries; told = it.told; heard = none_heard load_of may verdict_of state_after h h' _ none it.heard };
          };
        });
        others = λ id other. refl;
      }

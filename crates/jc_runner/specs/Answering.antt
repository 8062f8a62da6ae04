-- What the callbacks of a cache answer to its requests, and how that leaves them.
use Rattle.std.specs.Prelude.{◌≡◌, ℕ, List, [], ◌∷◌, Option, Some, None, Result, ⊤}
use Rattle.std.specs.List.{filter, flat_map}
use Rattle.jc_model.specs.declared.call.Answer.{Answer}
use Rattle.jc_model.specs.declared.call.Notice.{Notice}
use Rattle.jc_model.specs.declared.call.ProcessorFault.{ProcessorFault}
use Rattle.jc_model.specs.declared.call.Request.{Request}
use Rattle.jc_model.specs.declared.call.Verdict.{Verdict}
use Rattle.jc_locked.specs.Serving.{is_write}
use Rattle.jc_model.specs.Run.{told_by}
use Rattle.jc_hooks.specs.Answering.{IsStatedAnswer}
use Rattle.jc_hooks.specs.Asking.{GivesAnswers, TellsAll}
use Rattle.jc_hooks.specs.declared.cache_hooks.CacheHooks.{CacheHooks}
use Rattle.jc_hooks.specs.declared.loader.Loaded.{Loaded}

-- the writer's requests among these
abbrev pub written_in : List (Request × Answer) → List (Request × Answer)
written_in given = filter (λ x. is_write x.0) given

-- the notices that these requests tell
abbrev pub notices_told_in : List (Request × Answer) → List Notice
notices_told_in given = flat_map (λ x. told_by x.0) given

module _ {L W P K : Type 0} (load_of : L → List ℕ → Loaded) (may : W → List (Request × Answer) → Type 0) (verdict_of : P → Option (List ℕ) → List ℕ → Result Verdict ProcessorFault) (state_after : K → List Notice → List ℕ) where
  -- each answer of loader and processors is their function of its request
  abbrev pub AllStated : Option L → List P → List (Request × Answer) → Type 0
  AllStated loader processors [] = ⊤
  AllStated loader processors (x ∷ given) = IsStatedAnswer load_of verdict_of loader processors x.0 x.1 × AllStated loader processors given

  -- no callbacks have answered these requests
  abbrev pub Unheard : List (Request × Answer) → Type 0
  Unheard given = AllStated None [] given

  -- The callbacks have answered these requests so. Loader and processors are the same, and what writer and listeners
  -- state from now on, they stated behind this.
  pub record Heard (old new : CacheHooks L W P K) (given : List (Request × Answer)) : Type 0 where
    pub loader : new.loader ≡ old.loader
    pub processors : new.processors.items ≡ old.processors.items
    pub stated : AllStated old.loader old.processors.items given
    pub writes : GivesAnswers may old.writer new.writer (written_in given)
    pub tells : TellsAll state_after old.listeners.items new.listeners.items (notices_told_in given)

  -- of the callbacks of a cache that has them or has none
  abbrev pub HeardAt : Option (CacheHooks L W P K) → Option (CacheHooks L W P K) → List (Request × Answer) → Type 0
  HeardAt None None given = Unheard given
  HeardAt None (Some new) given = ⊥
  HeardAt (Some old) None given = ⊥
  HeardAt (Some old) (Some new) given = Heard old new given

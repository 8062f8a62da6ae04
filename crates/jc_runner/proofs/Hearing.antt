-- What callbacks have answered, one after the other.
use Rattle.std.proofs.Common.{◌≡◌, ℕ, List, [], ◌∷◌, ◌++◌, Option, Some, None, Result, refl, sym, ◌∙◌, subst}
use Rattle.std.proofs.lemmas.List.Elements.{filter-append}
use Rattle.std.proofs.lemmas.Grind.{flat_map-append}
use Rattle.jc_model.specs.declared.call.Answer.{Answer}
use Rattle.jc_model.specs.declared.call.Notice.{Notice}
use Rattle.jc_model.specs.declared.call.ProcessorFault.{ProcessorFault}
use Rattle.jc_model.specs.declared.call.Request.{Request}
use Rattle.jc_model.specs.declared.call.Verdict.{Verdict}
use Rattle.jc_model.specs.Run.{told_by}
use Rattle.jc_hooks.specs.declared.cache_hooks.CacheHooks.{CacheHooks}
use Rattle.jc_hooks.specs.declared.loader.Loaded.{Loaded}
use Rattle.jc_hooks.specs.Asking.{GivesAnswers, TellsAll}
use Rattle.jc_hooks.proofs.Behind.{gives_more, tells_more}
use Rattle.jc_locked.specs.Serving.{is_write}
use Rattle.jc_runner.specs.Answering.{written_in, notices_told_in, AllStated, Heard, HeardAt}
use Rattle.jc_runner.specs.Hooks.{HasNoHooks}

written-append : (xs ys : List (Request × Answer)) → written_in (xs ++ ys) ≡ written_in xs ++ written_in ys
written-append xs ys = filter-append (λ x. is_write x.0) xs ys

notices-append : (xs ys : List (Request × Answer)) → notices_told_in (xs ++ ys) ≡ notices_told_in xs ++ notices_told_in ys
notices-append xs ys = flat_map-append (λ x. told_by x.0) xs ys

module _ {L W P K : Type 0} (load_of : L → List ℕ → Loaded) (may : W → List (Request × Answer) → Type 0) (verdict_of : P → Option (List ℕ) → List ℕ → Result Verdict ProcessorFault) (state_after : K → List Notice → List ℕ) where
  abbrev HeardHere : CacheHooks L W P K → CacheHooks L W P K → List (Request × Answer) → Type 0
  HeardHere = Heard load_of may verdict_of state_after

  abbrev AllStatedHere : Option L → List P → List (Request × Answer) → Type 0
  AllStatedHere = AllStated load_of may verdict_of state_after

  heard_nothing : (h : CacheHooks L W P K) → HeardHere h h []
  heard_nothing h = record { loader = refl; processors = refl; stated = tt; writes = λ rest m. m; tells = λ rest. refl }

  all_append : (loader : Option L) (processors : List P) (xs ys : List (Request × Answer)) → AllStatedHere loader processors xs → AllStatedHere loader processors ys → AllStatedHere loader processors (xs ++ ys)
  all_append loader processors [] ys s t = t
  all_append loader processors (x ∷ xs) ys s t = (s.0, all_append loader processors xs ys s.1 t)

  heard_more : (h h1 h2 : CacheHooks L W P K) (xs ys : List (Request × Answer)) → HeardHere h h1 xs → HeardHere h1 h2 ys → HeardHere h h2 (xs ++ ys)
  heard_more h h1 h2 xs ys x y = record {
    loader = y.loader ∙ x.loader;
    processors = y.processors ∙ x.processors;
    stated = all_append h.loader h.processors.items xs ys x.stated
        (subst (λ (ps : List P). AllStatedHere h.loader ps ys) x.processors (subst (λ (o : Option L). AllStatedHere o h1.processors.items ys) x.loader y.stated));
    writes = subst (GivesAnswers may h.writer h2.writer) (sym (written-append xs ys)) (gives_more may h.writer h1.writer h2.writer (written_in xs) (written_in ys) x.writes y.writes);
    tells = subst (TellsAll state_after h.listeners.items h2.listeners.items) (sym (notices-append xs ys))
        (tells_more state_after h.listeners.items h1.listeners.items h2.listeners.items (notices_told_in xs) (notices_told_in ys) x.tells y.tells);
  }

  -- of the callbacks of a cache that has them or has none

  abbrev HeardThere : Option (CacheHooks L W P K) → Option (CacheHooks L W P K) → List (Request × Answer) → Type 0
  HeardThere = HeardAt load_of may verdict_of state_after

  pub nothing_heard : (o : Option (CacheHooks L W P K)) → HeardThere o o []
  nothing_heard None = tt
  nothing_heard (Some h) = heard_nothing h

  pub more_heard : (o o1 o2 : Option (CacheHooks L W P K)) (xs ys : List (Request × Answer)) → HeardThere o o1 xs → HeardThere o1 o2 ys → HeardThere o o2 (xs ++ ys)
  more_heard None None None xs ys x y = all_append None [] xs ys x y
  more_heard None None (Some h2) xs ys x y = absurd y
  more_heard None (Some h1) o2 xs ys x y = absurd x
  more_heard (Some h) None o2 xs ys x y = absurd x
  more_heard (Some h) (Some h1) None xs ys x y = absurd y
  more_heard (Some h) (Some h1) (Some h2) xs ys x y = heard_more h h1 h2 xs ys x y

  pub none_heard : (h h' : CacheHooks L W P K) (given : List (Request × Answer)) → HasNoHooks h → HeardHere h h' given → HeardThere None None given
  none_heard h h' given none x = subst (λ (ps : List P). AllStatedHere None ps given) none.processors (subst (λ (o : Option L). AllStatedHere o h.processors.items given) none.loader x.stated)

-- One line more.
use Rattle.std.proofs.Common.{◌≡◌, ℕ, ◌≤◌, Bool, true, false, if◌then◌else◌, List, [], ◌∷◌, ◌++◌, length, Option, Some, Result, refl, sym, ap, ◌∙◌, subst, append_assoc, arith}
use Rattle.std.specs.Prelude.{slice_get}
use Rattle.std.specs.Option.{option_map}
use Rattle.std.proofs.lemmas.Option.{same_Some}
use Rattle.jc_model.specs.declared.call.Answer.{Answer}
use Rattle.jc_model.specs.declared.call.Notice.{Notice}
use Rattle.jc_model.specs.declared.call.ProcessorFault.{ProcessorFault}
use Rattle.jc_model.specs.declared.call.Request.{Request}
use Rattle.jc_model.specs.declared.call.Verdict.{Verdict}
use Rattle.jc_model.specs.declared.config.CacheConfig.{CacheConfig}
use Rattle.jc_model.specs.declared.event.Cause.TheVariants.{NoSuchProcessor}
use Rattle.jc_model.specs.declared.event.Life.{Life}
use Rattle.jc_model.specs.declared.event.Outcome.TheVariants.{Step as Stepped, Refused}
use Rattle.jc_model.specs.Run.{Run}
use Rattle.jc_model.specs.Runs.{Status, Standing, idle, Lives, begins, shown, has_processor, refuse_last, answer_of}
use Rattle.jc_model.specs.Legal.{config_of}
use Rattle.jc_model.proofs.EachCache.{reply_kept}
use Rattle.jc_engine.specs.Recording.{Recording}
use Rattle.jc_hooks.specs.declared.cache_hooks.CacheHooks.{CacheHooks}
use Rattle.jc_hooks.specs.declared.loader.Loaded.{Loaded}
use Rattle.jc_script.specs.declared.line.Line.{Line}
use Rattle.jc_script.specs.declared.line.Line.TheVariants as line
use Rattle.jc_script.specs.declared.managed.Managed.{Managed}
use Rattle.jc_script.specs.Live.{after_line}
use Rattle.jc_script.specs.Managing.{lives_begun_by, lives_begun_from, managed_by, managed_from}
use Rattle.jc_script.specs.Named.{IsCallOnLive, Names, AllName}
use Rattle.jc_runner.specs.Alone.{run_alone}
use Rattle.jc_script.specs.declared.line.LineCall.{LineCall}
use Rattle.jc_runner.specs.Halfway.{lives_now, as_read, IsStandingIdle, IsAtRest, IsLineReady, RunsLine, LifeGoesOn, IsStillToCome, Halfway}
use Rattle.jc_runner.proofs.Lives.{LivesOn, lives_on, live_read, read_one, create_follows, create_goes, create_comes, destroy_follows, destroy_goes, destroy_comes}
use Rattle.jc_runner.proofs.Reached.{step_shown, shows_step}
use Rattle.jc_runner.proofs.Steps.{Follows, call_follows, call_goes, call_comes}
use Rattle.jc_model.specs.Places.{at_place}

-- The next line's call can begin.

begins_so : (run : Run) (b : Bool) → b ≡ true → refuse_last false (if b then shown run else Refused NoSuchProcessor) ≡ Stepped (step_shown run)
begins_so run b has = rw has (reply_kept (shown run) ∙ shows_step run)

pub next_ready : (r : Recording) (l : LineCall) → IsAtRest r → IsCallOnLive (as_read (lives_now r)) l.id l.call → IsLineReady r l
next_ready r l at_rest named =
    let lived : LivesOn (lives_now r) l.id = lives_on (lives_now r) l.id (record { status = named.status; there = named.there }) in
    let k : Status = lived.status in
    let read : named.status ≡ read_one k = same_Some named.status (read_one k) (sym named.there ∙ (live_read (lives_now r) l.id ∙ ap (option_map read_one) lived.there)) in
    let resting : IsStandingIdle k.standing = at_rest.resting l.id k lived.there in
    let has : has_processor k.config l.call ≡ true = ap (λ (x : Status). has_processor x.config l.call) (sym read) ∙ named.processor in
    let there : at_place (lives_now r) l.id ≡ Some (record { config = k.config; standing = idle resting.state }) = lived.there ∙ ap (λ (standing : Standing). Some (record { config = k.config; standing = standing })) resting.is in
    record {
      config = k.config;
      state = resting.state;
      there = there;
      moves = record {
        step = step_shown (run_alone k.config resting.state l);
        outcome = ap (λ (found : Option Status). answer_of found (begins l.at l.call) false) there ∙ begins_so (run_alone k.config resting.state l) (has_processor k.config l.call) has;
      };
      rest = at_rest;
    }

module _ {L W P K : Type 0} (load_of : L → List ℕ → Loaded) (may : W → List (Request × Answer) → Type 0) (verdict_of : P → Option (List ℕ) → List ℕ → Result Verdict ProcessorFault) (state_after : K → List Notice → List ℕ) where
  pub line_follows : (old new : Recording) (hooks hooks' : List (CacheHooks L W P K)) (l : Line) → IsAtRest old → Names (as_read (lives_now old)) l → RunsLine load_of may verdict_of state_after old new hooks hooks' l → Follows old new l
  line_follows old new hooks hooks' (line.Call l) at_rest named ran = call_follows load_of may verdict_of state_after old new hooks hooks' l at_rest ran
  line_follows old new hooks hooks' (line.Create session c) at_rest named ran = create_follows old new session c at_rest ran.0
  line_follows old new hooks hooks' (line.Destroy session id) at_rest named ran = destroy_follows old new session id at_rest named ran.0

  module _ (handed : List (CacheHooks L W P K)) (all rest : List Line) (old new : Recording) (hooks hooks' : List (CacheHooks L W P K)) (at_rest : IsAtRest old) where
    abbrev ComesHere : ℕ → List Line → List (CacheHooks L W P K) → Type 0
    ComesHere id lines callbacks = IsStillToCome id all lines (slice_get handed id) (slice_get callbacks id)

    comes : (l : Line) → Names (as_read (lives_now old)) l → RunsLine load_of may verdict_of state_after old new hooks hooks' l → (id : ℕ) → (length (lives_now old) ≤ id → ComesHere id (l ∷ rest) hooks) → length (lives_now new) ≤ id → ComesHere id rest hooks'
    comes (line.Call l) named ran id before beyond =
        call_comes load_of may verdict_of state_after old new hooks hooks' l at_rest ran handed all rest id before beyond
    comes (line.Create session c) named ran id before beyond =
        create_comes old new session c at_rest ran.0 load_of may verdict_of state_after all rest id (slice_get handed id) (slice_get hooks id) (slice_get hooks' id) (ap (λ (hs : List (CacheHooks L W P K)). slice_get hs id) ran.1) before beyond
    comes (line.Destroy session i) named ran id before beyond =
        destroy_comes old new session i at_rest named ran.0 load_of may verdict_of state_after all rest id (slice_get handed id) (slice_get hooks id) (slice_get hooks' id) (ap (λ (hs : List (CacheHooks L W P K)). slice_get hs id) ran.1) before beyond

    goes : (l : Line) → Names (as_read (lives_now old)) l → RunsLine load_of may verdict_of state_after old new hooks hooks' l → (id : ℕ) (c : CacheConfig) → (length (lives_now old) ≤ id → ComesHere id (l ∷ rest) hooks)
        → (config_of id old.transcript.lives ≡ Some c → LifeGoesOn load_of may verdict_of state_after c id all (l ∷ rest) (slice_get handed id) (slice_get hooks id) old.transcript.entries)
        → config_of id new.transcript.lives ≡ Some c → LifeGoesOn load_of may verdict_of state_after c id all rest (slice_get handed id) (slice_get hooks' id) new.transcript.entries
    goes (line.Call l) named ran id c before went config =
        call_goes load_of may verdict_of state_after old new hooks hooks' l at_rest ran handed all rest id c went config
    goes (line.Create session d) named ran id c before went config =
        create_goes old new session d at_rest ran.0 load_of may verdict_of state_after all rest id (slice_get handed id) (slice_get hooks id) (slice_get hooks' id) (ap (λ (hs : List (CacheHooks L W P K)). slice_get hs id) ran.1) before c went config
    goes (line.Destroy session i) named ran id c before went config =
        destroy_goes old new session i at_rest named ran.0 load_of may verdict_of state_after all rest id (slice_get handed id) (slice_get hooks id) (slice_get hooks' id) (ap (λ (hs : List (CacheHooks L W P K)). slice_get hs id) ran.1) c went config

    pub one_line_more : (caches : List CacheConfig) (l : Line) (managed managed' : List Managed) → managed' ≡ managed ++ managed_by (as_read (lives_now old)) l → Names (as_read (lives_now old)) l → RunsLine load_of may verdict_of state_after old new hooks hooks' l → Halfway load_of may verdict_of state_after caches handed all (l ∷ rest) old hooks managed
        → Halfway load_of may verdict_of state_after caches handed all rest new hooks' managed'
    one_line_more caches l managed managed' noted named ran half =
        let read : Lives = as_read (lives_now old) in
        let f : Follows old new l = line_follows old new hooks hooks' l at_rest named ran in
        record {
          lives = ap (λ (ls : List Life). ls ++ lives_begun_from (as_read (lives_now new)) rest) f.begun ∙ ap (λ (ks : Lives). (old.transcript.lives ++ lives_begun_by read l) ++ lives_begun_from ks rest) f.read
              ∙ append_assoc old.transcript.lives (lives_begun_by read l) (lives_begun_from (after_line read l) rest) ∙ half.lives;
          answers = ap (λ (ms : List Managed). ms ++ managed_from (as_read (lives_now new)) rest) noted ∙ ap (λ (ks : Lives). (managed ++ managed_by read l) ++ managed_from ks rest) f.read ∙ append_assoc managed (managed_by read l) (managed_from (after_line read l) rest) ∙ half.answers;
          each = λ id c config. goes l named ran id c (half.others id) (half.each id c) config;
          others = λ id beyond. comes l named ran id (half.others id) beyond;
        }

-- the lines that are left name what is there then
pub named_next : (old new : Recording) (l : Line) (rest : List Line) → Follows old new l → AllName (as_read (lives_now old)) (l ∷ rest) → AllName (as_read (lives_now new)) rest
named_next old new l rest follows named = subst (λ (ks : Lives). AllName ks rest) (sym follows.read) named.1

pub none_left : (lines : List Line) → length lines ≡ 0 → lines ≡ []
none_left [] e = refl
none_left (l ∷ ls) e = absurd (omega (arith, e))

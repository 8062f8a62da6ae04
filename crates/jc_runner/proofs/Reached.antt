-- One call, from its beginning to its reply.
use Rattle.std.proofs.Common.{◌≡◌, ℕ, ◌+◌, ◌-◌, ◌<◌, Bool, true, false, if◌then◌else◌, ◌==◌, IsTrue, List, [], ◌∷◌, ◌++◌, Option, Some, Result, refl, sym, ap, ◌∙◌, subst, arith, append-nil, length, length-append}
use Rattle.std.specs.Prelude.{slice_set, ◌&&◌}
use Rattle.std.proofs.lemmas.Bool.Decides.{nat_tests}
use Rattle.std.proofs.lemmas.Grind.{flat_map-append}
use Rattle.std.proofs.lemmas.List.{map_push}
use Rattle.jc_model.specs.declared.call.Answer.{Answer}
use Rattle.jc_model.specs.declared.call.Notice.{Notice}
use Rattle.jc_model.specs.declared.call.ProcessorFault.{ProcessorFault}
use Rattle.jc_model.specs.declared.call.Reply.{Reply}
use Rattle.jc_model.specs.declared.call.Request.{Request}
use Rattle.jc_model.specs.declared.call.Verdict.{Verdict}
use Rattle.jc_model.specs.declared.config.CacheConfig.{CacheConfig}
use Rattle.jc_model.specs.declared.event.Cause.TheVariants.{NoSuchProcessor, WrongAnswer}
use Rattle.jc_model.specs.declared.event.End.TheVariants.{Waiting}
use Rattle.jc_model.specs.declared.event.Entry.{Entry}
use Rattle.jc_model.specs.declared.event.Event.{Event}
use Rattle.jc_model.specs.declared.event.Event.TheVariants.{Answer as Answered}
use Rattle.jc_model.specs.declared.event.Outcome.{Outcome}
use Rattle.jc_model.specs.declared.event.Outcome.TheVariants.{Step as Stepped, Refused}
use Rattle.jc_model.specs.declared.event.Step.{Step}
use Rattle.jc_model.specs.declared.event.Step.TheVariants.{Done, Need}
use Rattle.jc_model.specs.State.{State}
use Rattle.jc_model.specs.Run.{Run, ended, waiting, resume, answered, awaited_by, fits, is_answer_to}
use Rattle.jc_model.specs.Runs.{Status, Standing, idle, Lives, begins, answers, shown, standing_of, has_processor, reply_of, moved_by, moved, for_memory, refuse_last, answer_of, answer_to, put_moved}
use Rattle.jc_model.specs.Legal.{Fits, is_waiting, is_open, on_open, with_outcome, with_answer, History, recorded, Tells}
use Rattle.jc_model.proofs.EachCache.{reply_kept}
use Rattle.jc_model.proofs.Law.{whole-within}
use Rattle.jc_model.proofs.Lives.{live_same}
use Rattle.jc_model.proofs.Recording.{one_more_event}
use Rattle.jc_model.proofs.Resume.{answered-append, Fits-append}
use Rattle.jc_engine.specs.Recording.{Recording}
use Rattle.jc_engine.proofs.Entries.{set_set}
use Rattle.jc_hooks.specs.declared.cache_hooks.CacheHooks.{CacheHooks}
use Rattle.jc_hooks.specs.declared.loader.Loaded.{Loaded}
use Rattle.jc_runner.specs.Alone.{exchanges_of_call, end_of, run_alone, entry_by}
use Rattle.jc_runner.specs.Answering.{HeardAt}
use Rattle.jc_script.specs.declared.line.LineCall.{LineCall}
use Rattle.jc_runner.specs.Halfway.{lives_now, event_of, CanMove, MovesRecording, NoneOpen, IsLineReady, ReachedFrom, Reached, Replies}
use Rattle.jc_runner.proofs.Answered.{awaits-need, exchanged-nil, exchanged-push, entry-push, entry-first}
use Rattle.jc_runner.proofs.Bounds.{fewer_answers, answers_in, most_asked, most_at}
use Rattle.jc_runner.proofs.Hearing.{nothing_heard, more_heard}
use Rattle.jc_model.specs.Places.{at_place}

-- what a run shows, as a step
abbrev pub step_shown : Run → Step
step_shown (ended p r) = Done r
step_shown (waiting q p resumed) = Need q

pub shows_step : (run : Run) → shown run ≡ Stepped (step_shown run)
shows_step (ended p r) = refl
shows_step (waiting q p resumed) = refl

shown_if : (b : Bool) (run : Run) (step : Step) → Stepped step ≡ refuse_last false (if b then shown run else Refused NoSuchProcessor) → shown run ≡ Stepped step
shown_if true run step e = sym (e ∙ reply_kept (shown run))
shown_if false run step e = absurd cc

abbrev status : CacheConfig → Standing → Status
status c standing = record { config = c; standing = standing }

-- where a call waits, its answer is taken

reply_waits : (c : CacheConfig) (run : Run) (q : Request) (a : Answer) → shown run ≡ Stepped (Need q) → IsTrue (is_answer_to q a) → reply_of c (standing_of run) (answers a) ≡ shown (resume run a)
reply_waits c (ended p r) q a e fit = absurd cc
reply_waits c (waiting q' p resumed) q a e fit =
    let same : q' ≡ q = cc in
    let fit' : fits (awaited_by q') a ≡ true = ap (λ (x : Request). fits (awaited_by x) a) same ∙ fit in
    ap (λ (b : Bool). if b then shown (resumed a) else Refused WrongAnswer) fit'

moved_waits : (c : CacheConfig) (run : Run) (q : Request) (a : Answer) → shown run ≡ Stepped (Need q) → moved_by c (standing_of run) (answers a) ≡ standing_of (resume run a)
moved_waits c (ended p r) q a e = absurd cc
moved_waits c (waiting q' p resumed) q a e = refl

is_waiting_end : (l : LineCall) (run : Run) (given : List Answer) (q : Request) → shown (answered run given) ≡ Stepped (Need q) → is_waiting (entry_by l run given).end ≡ true
is_waiting_end l run given q e = go (answered run given) e
  where
    go : (now : Run) → shown now ≡ Stepped (Need q) → is_waiting (end_of now) ≡ true
    go (ended p r) e = absurd cc
    go (waiting q' p resumed) e = refl

id_is_id : (n : ℕ) → (n == n) ≡ true
id_is_id n = grind (arith, nat_tests)

taken : (b : Bool) (x y : Entry) → b ≡ true → (if b then x else y) ≡ x
taken true x y e = refl
taken false x y e = absurd cc

-- the last entry alone is open
changes_last : (id : ℕ) (f : Entry → Entry) (transcript : List Entry) (e : Entry) → NoneOpen transcript → is_open id e ≡ true → on_open id f (transcript ++ e ∷ []) ≡ transcript ++ f e ∷ []
changes_last id f transcript e closed is =
    let g : Entry → Entry = λ d. if is_open id d then f d else d in
    map_push g transcript e ∙ ap (λ (es : List Entry). es ++ g e ∷ []) (closed id f) ∙ ap (λ (d : Entry). transcript ++ d ∷ []) (taken (is_open id e) (f e) e is)

-- the answers of one entry more
counted : (l : LineCall) (run : Run) (given : List Answer) (transcript transcript' : List Entry) → Fits run given → transcript' ≡ transcript ++ entry_by l run given ∷ [] → length (answers_in transcript') ≡ length (answers_in transcript) + length given
counted l run given transcript transcript' fit is =
    ap (λ (es : List Entry). length (answers_in es)) is ∙ ap length (flat_map-append (λ (e : Entry). e.answers) transcript (entry_by l run given ∷ []))
    ∙ length-append (answers_in transcript) (given ++ []) ∙ ap (λ (gave : List Answer). length (answers_in transcript) + length gave) (append-nil given)

-- an event more: the transcript goes on telling how the caches stand
pub still_told : (old new : Recording) (session : ℕ) (event : Event) (o : Outcome) → Tells old.transcript (lives_now old) → o ≡ answer_to (lives_now old) event (for_memory o) → MovesRecording old new session event o → Tells new.transcript (lives_now new)
still_told old new session event o told is m =
    subst (λ (history : History). Tells history (lives_now new)) (sym m.transcript)
    (subst (λ (ks : Lives). Tells (recorded session event o old.transcript) ks) (sym m.lives) (one_more_event session (lives_now old) old.transcript event o told is))

module _ {L W P K : Type 0} (load_of : L → List ℕ → Loaded) (may : W → List (Request × Answer) → Type 0) (verdict_of : P → Option (List ℕ) → List ℕ → Result Verdict ProcessorFault) (state_after : K → List Notice → List ℕ) where
  -- a call has begun
  pub has_begun : (old new : Recording) (h : Option (CacheHooks L W P K)) (l : LineCall) (step : Step) → IsLineReady old l → MovesRecording old new l.session (event_of l) (Stepped step) → Reached load_of may verdict_of state_after old new h h l step
  has_begun old new h l step ready m =
      let c : CacheConfig = ready.config in
      let s : State = ready.state in
      let run : Run = run_alone c s l in
      let shows : shown run ≡ Stepped step = shown_if (has_processor c l.call) run step (m.answers ∙ ap (λ (found : Option Status). answer_of found (begins l.at l.call) false) ready.there) in
      record {
        config = c;
        state = s;
        there = ready.there;
        reached = record {
          answers = [];
          fit = tt;
          shows = shows;
          lives = m.lives ∙ ap (put_moved (lives_now old) l.id (begins l.at l.call)) ready.there;
          begun = ap (λ (history : History). history.lives) m.transcript;
          entries = ap (λ (history : History). history.entries) m.transcript ∙ ap (λ (e : Entry). old.transcript.entries ++ e ∷ []) (ap (λ (o : Outcome). with_outcome o (record { session = l.session; id = l.id; at = l.at; call = l.call; answers = []; told = []; end = Waiting })) (sym shows) ∙ entry-first l run);
          told = still_told old new l.session (event_of l) (Stepped step) ready.rest.told m.answers m;
          heard = subst (HeardAt load_of may verdict_of state_after h h) (sym (exchanged-nil run)) (nothing_heard load_of may verdict_of state_after h);
        };
      }

  module _ (c : CacheConfig) (s : State) (old now : Recording) (h h1 : Option (CacheHooks L W P K)) (l : LineCall) (q : Request) (a : Answer)
      (r : ReachedFrom load_of may verdict_of state_after c s old now h h1 l (Need q)) (there : at_place (lives_now old) l.id ≡ Some (record { config = c; standing = idle s })) (fit : IsTrue (is_answer_to q a)) where
    abbrev first_run : Run
    first_run = run_alone c s l

    abbrev run_now : Run
    run_now = answered first_run r.answers

    stands_now : at_place (lives_now now) l.id ≡ Some (status c (standing_of run_now))
    stands_now = ap (λ (ks : Lives). at_place ks l.id) r.lives ∙ live_same (lives_now old) l.id (status c (idle s)) (Some (status c (standing_of run_now))) there

    replies_now : answer_of (at_place (lives_now now) l.id) (answers a) false ≡ shown (resume run_now a)
    replies_now = ap (λ (found : Option Status). answer_of found (answers a) false) stands_now ∙ reply_kept (reply_of c (standing_of run_now) (answers a)) ∙ reply_waits c run_now q a r.shows fit

    -- its request can be answered
    pub can_resume : CanMove now (Answered l.id a)
    can_resume = record { step = step_shown (resume run_now a); outcome = replies_now ∙ shows_step (resume run_now a) }

    is_open_now : is_open l.id (entry_by l first_run r.answers) ≡ true
    is_open_now = ap (λ (b : Bool). b && is_waiting (entry_by l first_run r.answers).end) (id_is_id l.id) ∙ is_waiting_end l first_run r.answers q r.shows

    fit_next : Fits first_run (r.answers ++ a ∷ [])
    fit_next = Fits-append first_run r.answers a r.fit (awaits-need run_now q a r.shows fit)

    entries_next : NoneOpen old.transcript.entries → (next : Recording) (step : Step) → ((session : ℕ) → MovesRecording now next session (Answered l.id a) (Stepped step)) → next.transcript.entries ≡ old.transcript.entries ++ entry_by l first_run (r.answers ++ a ∷ []) ∷ []
    entries_next closed next step m =
        let f : Entry → Entry = λ e. with_outcome (Stepped step) (with_answer a e) in
        let e : Entry = entry_by l first_run r.answers in
        ap (λ (history : History). history.entries) (m 0).transcript ∙ ap (on_open l.id f) r.entries ∙ changes_last l.id f old.transcript.entries e closed is_open_now
        ∙ ap (λ (d : Entry). old.transcript.entries ++ d ∷ []) (ap (λ (o : Outcome). with_outcome o (with_answer a e)) ((m 0).answers ∙ replies_now) ∙ entry-push l first_run r.answers a)

    -- and has been answered
    pub goes_on : NoneOpen old.transcript.entries → (next : Recording) (h2 : Option (CacheHooks L W P K)) (step : Step) → HeardAt load_of may verdict_of state_after h1 h2 ((q, a) ∷ []) → ((session : ℕ) → MovesRecording now next session (Answered l.id a) (Stepped step))
        → ReachedFrom load_of may verdict_of state_after c s old next h h2 l step
    goes_on closed next h2 step hears m =
        let shows : Stepped step ≡ shown (resume run_now a) = (m 0).answers ∙ replies_now in
        let more : answered first_run (r.answers ++ a ∷ []) ≡ resume run_now a = answered-append first_run r.answers a in
        let to : Status = moved (status c (standing_of run_now)) (answers a) in
        record {
          answers = r.answers ++ a ∷ [];
          fit = fit_next;
          shows = ap shown more ∙ sym shows;
          lives = (m 0).lives ∙ ap (put_moved (lives_now now) l.id (answers a)) stands_now ∙ ap (λ (ks : Lives). slice_set ks l.id (Some to)) r.lives
              ∙ set_set (lives_now old) l.id (Some (status c (standing_of run_now))) (Some to)
              ∙ ap (λ (standing : Standing). slice_set (lives_now old) l.id (Some (status c standing))) (moved_waits c run_now q a r.shows ∙ ap standing_of (sym more));
          begun = ap (λ (history : History). history.lives) (m 0).transcript ∙ r.begun;
          entries = entries_next closed next step m;
          told = still_told now next 0 (Answered l.id a) (Stepped step) r.told (m 0).answers (m 0);
          heard = subst (HeardAt load_of may verdict_of state_after h h2) (sym (exchanged-push first_run r.answers a q r.fit r.shows)) (more_heard load_of may verdict_of state_after h h1 h2 (exchanges_of_call first_run r.answers) ((q, a) ∷ []) r.heard hears);
        }

    -- one answer nearer to the most that there can be
    pub comes_nearer : NoneOpen old.transcript.entries → (next : Recording) (step : Step) → ((session : ℕ) → MovesRecording now next session (Answered l.id a) (Stepped step))
        → (most_at (at_place (lives_now old) l.id) l.at l.call + length (answers_in old.transcript.entries)) - length (answers_in next.transcript.entries)
        < (most_at (at_place (lives_now old) l.id) l.at l.call + length (answers_in old.transcript.entries)) - length (answers_in now.transcript.entries)
    comes_nearer closed next step m =
        let most : most_at (at_place (lives_now old) l.id) l.at l.call ≡ most_asked c l.at l.call s = ap (λ (found : Option Status). most_at found l.at l.call) there in
        let fewer : length r.answers < most_asked c l.at l.call s = fewer_answers (most_asked c l.at l.call s) first_run r.answers q (whole-within c l.at l.call s) r.fit r.shows in
        let before : length (answers_in now.transcript.entries) ≡ length (answers_in old.transcript.entries) + length r.answers = counted l first_run r.answers old.transcript.entries now.transcript.entries r.fit r.entries in
        let after : length (answers_in next.transcript.entries) ≡ length (answers_in old.transcript.entries) + length (r.answers ++ a ∷ []) = counted l first_run (r.answers ++ a ∷ []) old.transcript.entries next.transcript.entries fit_next (entries_next closed next step m) in
        omega (arith, most, fewer, before, after, length-append r.answers (a ∷ []))

  -- The same of a call that has come to a step.

  module _ (old now : Recording) (h h1 : Option (CacheHooks L W P K)) (l : LineCall) (step : Step) (r : Reached load_of may verdict_of state_after old now h h1 l step) where
    abbrev at_need : (q : Request) → step ≡ Need q → ReachedFrom load_of may verdict_of state_after r.config r.state old now h h1 l (Need q)
    at_need q is = subst (ReachedFrom load_of may verdict_of state_after r.config r.state old now h h1 l) is r.reached

    pub can_answer : (q : Request) (a : Answer) → step ≡ Need q → IsTrue (is_answer_to q a) → CanMove now (Answered l.id a)
    can_answer q a is fit = can_resume r.config r.state old now h h1 l q a (at_need q is) r.there fit

    module _ (q : Request) (a : Answer) (is : step ≡ Need q) (fit : IsTrue (is_answer_to q a)) (closed : NoneOpen old.transcript.entries) (next : Recording) (after : Step) (m : (session : ℕ) → MovesRecording now next session (Answered l.id a) (Stepped after)) where
      pub answer_taken : (h2 : Option (CacheHooks L W P K)) → HeardAt load_of may verdict_of state_after h1 h2 ((q, a) ∷ []) → Reached load_of may verdict_of state_after old next h h2 l after
      answer_taken h2 hears = record {
        config = r.config;
        state = r.state;
        there = r.there;
        reached = goes_on r.config r.state old now h h1 l q a (at_need q is) r.there fit closed next h2 after hears m;
      }

      pub one_answer_nearer : (most_at (at_place (lives_now old) l.id) l.at l.call + length (answers_in old.transcript.entries)) - length (answers_in next.transcript.entries)
          < (most_at (at_place (lives_now old) l.id) l.at l.call + length (answers_in old.transcript.entries)) - length (answers_in now.transcript.entries)
      one_answer_nearer = comes_nearer r.config r.state old now h h1 l q a (at_need q is) r.there fit closed next after m

    pub has_replied : (reply : Reply) → step ≡ Done reply → Replies load_of may verdict_of state_after old now h h1 l
    has_replied reply is = record { reply = reply; done = subst (Reached load_of may verdict_of state_after old now h h1 l) is r }

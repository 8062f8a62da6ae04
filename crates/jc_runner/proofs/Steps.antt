-- A line that makes a call.
use Rattle.std.proofs.Common.{◌≡◌, ◌≢◌, ℕ, zero, suc, ◌<◌, ◌≤◌, ◌==◌, Bool, true, false, if◌then◌else◌, List, [], ◌∷◌, ◌++◌, length, map, Option, Some, Result, refl, sym, ap, ◌∙◌, subst, append_assoc, append-nil, arith}
use Rattle.std.specs.Prelude.{slice_get, slice_set, ◌&&◌}
use Rattle.std.proofs.lemmas.Bool.Decides.{nat_tests}
use Rattle.std.proofs.lemmas.Bool.{false≢true}
use Rattle.std.proofs.lemmas.Option.{same_Some}
use Rattle.std.proofs.lemmas.List.{map_push}
use Rattle.std.proofs.lemmas.List.Elements.{filter-append}
use Rattle.std.specs.Option.{option_map}
use Rattle.jc_model.specs.declared.call.Answer.{Answer}
use Rattle.jc_model.specs.declared.call.Notice.{Notice}
use Rattle.jc_model.specs.declared.call.ProcessorFault.{ProcessorFault}
use Rattle.jc_model.specs.declared.call.Reply.{Reply}
use Rattle.jc_model.specs.declared.call.Request.{Request}
use Rattle.jc_model.specs.declared.call.Verdict.{Verdict}
use Rattle.jc_model.specs.declared.config.CacheConfig.{CacheConfig}
use Rattle.jc_model.specs.declared.event.Entry.{Entry}
use Rattle.jc_model.specs.declared.event.Step.TheVariants.{Done}
use Rattle.jc_model.specs.Changes.{Progress}
use Rattle.jc_model.specs.State.{State}
use Rattle.jc_model.specs.Run.{Run, ended, answered}
use Rattle.jc_model.specs.Runs.{Status, Standing, idle, fresh, opened, Lives, standing_of}
use Rattle.jc_model.specs.Whole.{whole}
use Rattle.jc_model.specs.Solo.{PlayedCall, state_in, standing_left, after_call, standing_from}
use Rattle.jc_model.specs.Legal.{is_waiting, is_open, entries_of, config_of, was_given_up, played, IsTold}
use Rattle.jc_model.proofs.Lives.{same_length, live_within, live_same, live_other}
use Rattle.jc_engine.specs.Recording.{Recording}
use Rattle.jc_hooks.specs.declared.cache_hooks.CacheHooks.{CacheHooks}
use Rattle.jc_hooks.specs.declared.loader.Loaded.{Loaded}
use Rattle.jc_script.specs.declared.line.Line.{Line}
use Rattle.jc_script.specs.declared.line.Line.TheVariants as line
use Rattle.jc_script.specs.Live.{after_line}
use Rattle.jc_script.specs.Managing.{lives_begun_by}
use Rattle.jc_runner.specs.Alone.{calls_on, line_of_entry, IsReply, AllReplied, exchanges_of_call, exchanges, end_of, run_alone, entry_by}
use Rattle.jc_runner.specs.Answering.{HeardAt}
use Rattle.jc_script.specs.declared.line.LineCall.{LineCall}
use Rattle.jc_runner.specs.Halfway.{lives_now, as_read, NoneOpen, IsStandingIdle, IsAtRest, ReachedFrom, Reached, RepliesAt, LifeGoesOn, IsStillToCome}
use Rattle.jc_runner.proofs.Answered.{Ends, ends_with}
use Rattle.jc_runner.proofs.Hearing.{more_heard}
use Rattle.jc_model.specs.Places.{at_place}

-- Entries and calls of one life.

pub id_is_id : (n : ℕ) → (n == n) ≡ true
id_is_id n = grind (arith, nat_tests)

pub is_same : (m n : ℕ) → (m == n) ≡ true → m ≡ n
is_same m n e = grind (arith, nat_tests)

pub is_other : (m n : ℕ) → (m == n) ≡ false → m ≢ n
is_other m n e same = false≢true (sym e ∙ (ap (λ k. m == k) (sym same) ∙ id_is_id m))

entry_of_same : (id : ℕ) (transcript : List Entry) (e : Entry) → (e.id == id) ≡ true → entries_of id (transcript ++ e ∷ []) ≡ entries_of id transcript ++ e ∷ []
entry_of_same id transcript e h = filter-append (λ d. d.id == id) transcript (e ∷ []) ∙ ap (λ es. entries_of id transcript ++ es) (rw h refl)

entry_of_other : (id : ℕ) (transcript : List Entry) (e : Entry) → (e.id == id) ≡ false → entries_of id (transcript ++ e ∷ []) ≡ entries_of id transcript
entry_of_other id transcript e h = filter-append (λ d. d.id == id) transcript (e ∷ []) ∙ ap (λ es. entries_of id transcript ++ es) (rw h refl) ∙ append-nil (entries_of id transcript)

call_of_same : (id : ℕ) (l : LineCall) (rest : List Line) → (l.id == id) ≡ true → calls_on id (line.Call l ∷ rest) ≡ l ∷ calls_on id rest
call_of_same id l rest h = rw h refl

call_of_other : (id : ℕ) (l : LineCall) (rest : List Line) → (l.id == id) ≡ false → calls_on id (line.Call l ∷ rest) ≡ calls_on id rest
call_of_other id l rest h = rw h refl

-- A call that replied is closed.

kept_closed : (b w : Bool) (x y : Entry) → w ≡ false → (if b && w then x else y) ≡ y
kept_closed true w x y e = rw e refl
kept_closed false w x y e = refl

none_open_more : (transcript : List Entry) (e : Entry) → NoneOpen transcript → is_waiting e.end ≡ false → NoneOpen (transcript ++ e ∷ [])
none_open_more transcript e closed over id f =
    let g : Entry → Entry = λ d. if is_open id d then f d else d in
    map_push g transcript e ∙ ap (λ (es : List Entry). es ++ g e ∷ []) (closed id f) ∙ ap (λ (d : Entry). transcript ++ d ∷ []) (kept_closed (e.id == id) (is_waiting e.end) (f e) e over)

over : (l : LineCall) (run : Run) (given : List Answer) (reply : Reply) → Ends (answered run given) reply → is_waiting (entry_by l run given).end ≡ false
over l run given reply e = ap (λ (now : Run). is_waiting (end_of now)) e.is

-- One entry more of a life.

standing_push : (c : CacheConfig) (standing : Standing) (ps : List PlayedCall) (p : PlayedCall) → standing_from c standing (ps ++ p ∷ []) ≡ after_call c (state_in (standing_from c standing ps)) p
standing_push c standing [] p = refl
standing_push c standing (q ∷ ps) p = standing_push c (after_call c (state_in standing) q) ps p

exchanges_push : (c : CacheConfig) (standing : Standing) (es : List Entry) (e : Entry) → exchanges c standing (es ++ e ∷ []) ≡ exchanges c standing es ++ exchanges_of_call (whole c e.at e.call (state_in (standing_from c standing (map played es)))) e.answers
exchanges_push c standing [] e = append-nil (exchanges_of_call (whole c e.at e.call (state_in standing)) e.answers)
exchanges_push c standing (d ∷ es) e =
    let here : List (Request × Answer) = exchanges_of_call (whole c d.at d.call (state_in standing)) d.answers in
    let next : Standing = after_call c (state_in standing) (played d) in
    ap (λ (xs : List (Request × Answer)). here ++ xs) (exchanges_push c next es e) ∙ sym (append_assoc here (exchanges c next es) (exchanges_of_call (whole c e.at e.call (state_in (standing_from c next (map played es)))) e.answers))

replied_push : (es : List Entry) (e : Entry) → AllReplied es → IsReply e.end → AllReplied (es ++ e ∷ [])
replied_push [] e all last = (last, tt)
replied_push (d ∷ es) e all last = (all.0, replied_push es e all.1 last)

left_ended : (run : Run) (p : Progress) (reply : Reply) → run ≡ ended p reply → standing_left run (was_given_up (end_of run)) ≡ idle p.state
left_ended run p reply e = ap (λ (x : Run). standing_left x (was_given_up (end_of x))) e

-- The caches as a reader follows them.

-- no call changes a configuration
read_same : (lives : Lives) (i : ℕ) (k k' : Status) → at_place lives i ≡ Some k → k'.config ≡ k.config → as_read (slice_set lives i (Some k')) ≡ as_read lives
read_same [] i k k' at same = refl
read_same (x ∷ lives) zero k k' at same =
    ap (λ (c : CacheConfig). Some (opened c) ∷ as_read lives) same ∙ ap (λ (o : Option Status). option_map (λ k. opened k.config) o ∷ as_read lives) (sym at)
read_same (x ∷ lives) (suc i) k k' at same = ap (λ (ks : Lives). option_map (λ k. opened k.config) x ∷ ks) (read_same lives i k k' at same)

-- what a line leaves is what the reader thinks, and no call is open
pub record Follows (old new : Recording) (l : Line) : Type 0 where
  pub read : as_read (lives_now new) ≡ after_line (as_read (lives_now old)) l
  pub begun : new.transcript.lives ≡ old.transcript.lives ++ lives_begun_by (as_read (lives_now old)) l
  pub rest : IsAtRest new

module _ {L W P K : Type 0} (load_of : L → List ℕ → Loaded) (may : W → List (Request × Answer) → Type 0) (verdict_of : P → Option (List ℕ) → List ℕ → Result Verdict ProcessorFault) (state_after : K → List Notice → List ℕ) where
  abbrev GoesHere : CacheConfig → ℕ → List Line → List Line → Option (CacheHooks L W P K) → Option (CacheHooks L W P K) → List Entry → Type 0
  GoesHere = LifeGoesOn load_of may verdict_of state_after

  -- the life of a call
  module _ (c : CacheConfig) (s : State) (all rest : List Line) (l : LineCall) (old new : Recording) (handed h h' : Option (CacheHooks L W P K)) (reply : Reply) (left : standing_from c fresh (map played (entries_of l.id old.transcript.entries)) ≡ idle s)
      (g : GoesHere c l.id all (line.Call l ∷ rest) handed h old.transcript.entries) (r : ReachedFrom load_of may verdict_of state_after c s old new h h' l (Done reply)) where
    abbrev run : Run
    run = run_alone c s l

    abbrev added_entry : Entry
    added_entry = entry_by l run r.answers

    abbrev before : List Entry
    before = entries_of l.id old.transcript.entries

    ends : Ends (answered run r.answers) reply
    ends = ends_with (answered run r.answers) reply r.shows

    own : (l.id == l.id) ≡ true
    own = id_is_id l.id

    added : entries_of l.id new.transcript.entries ≡ before ++ added_entry ∷ []
    added = ap (entries_of l.id) r.entries ∙ entry_of_same l.id old.transcript.entries added_entry own

    goes_same : GoesHere c l.id all rest handed h' new.transcript.entries
    goes_same = record {
      left = record {
        state = ends.finally.state;
        is = ap (λ (es : List Entry). standing_from c fresh (map played es)) added ∙ ap (standing_from c fresh) (map_push played before added_entry)
            ∙ standing_push c fresh (map played before) (played added_entry) ∙ ap (λ (standing : Standing). after_call c (state_in standing) (played added_entry)) left
            ∙ left_ended (answered run r.answers) ends.finally reply ends.is;
      };
      calls = ap (λ (es : List Entry). map line_of_entry es ++ calls_on l.id rest) added ∙ ap (λ (ls : List LineCall). ls ++ calls_on l.id rest) (map_push line_of_entry before added_entry)
          ∙ append_assoc (map line_of_entry before) (l ∷ []) (calls_on l.id rest) ∙ ap (λ (ls : List LineCall). map line_of_entry before ++ ls) (sym (call_of_same l.id l rest own)) ∙ g.calls;
      replied = subst AllReplied (sym added) (replied_push before added_entry g.replied (subst (λ (now : Run). IsReply (end_of now)) (sym ends.is) tt));
      heard =
          let exchanged_here : exchanges c fresh (entries_of l.id new.transcript.entries) ≡ exchanges c fresh before ++ exchanges_of_call run r.answers =
          ap (exchanges c fresh) added ∙ exchanges_push c fresh before added_entry
          ∙ ap (λ (standing : Standing). exchanges c fresh before ++ exchanges_of_call (whole c added_entry.at added_entry.call (state_in standing)) r.answers) left in
          subst (HeardAt load_of may verdict_of state_after handed h') (sym exchanged_here) (more_heard load_of may verdict_of state_after handed h h' (exchanges c fresh before) (exchanges_of_call run r.answers) g.heard r.heard);
    }

  -- a line that is none of a life's calls
  pub goes_past : (c : CacheConfig) (id : ℕ) (all rest rest' : List Line) (handed h h' : Option (CacheHooks L W P K)) (entries entries' : List Entry) → calls_on id rest' ≡ calls_on id rest → entries_of id entries' ≡ entries_of id entries → h' ≡ h
      → GoesHere c id all rest handed h entries → GoesHere c id all rest' handed h' entries'
  goes_past c id all rest rest' handed h h' entries entries' passed same_entries same g = record {
    left = subst (λ (es : List Entry). IsStandingIdle (standing_from c fresh (map played es))) (sym same_entries) g.left;
    calls = ap (λ (es : List Entry). map line_of_entry es ++ calls_on id rest') same_entries ∙ ap (λ (ls : List LineCall). map line_of_entry (entries_of id entries) ++ ls) passed ∙ g.calls;
    replied = subst AllReplied (sym same_entries) g.replied;
    heard = subst (λ (es : List Entry). HeardAt load_of may verdict_of state_after handed h' (exchanges c fresh es)) (sym same_entries)
        (subst (λ (o : Option (CacheHooks L W P K)). HeardAt load_of may verdict_of state_after handed o (exchanges c fresh (entries_of id entries))) (sym same) g.heard);
  }

  -- A line that makes a call.

  module _ (old new : Recording) (hooks hooks' : List (CacheHooks L W P K)) (l : LineCall) (at_rest : IsAtRest old) (r : RepliesAt load_of may verdict_of state_after old new hooks hooks' l) where
    abbrev done : Reached load_of may verdict_of state_after old new (slice_get hooks l.id) (slice_get hooks' l.id) l (Done r.replies.reply)
    done = r.replies.done

    abbrev answered_run : Run
    answered_run = answered (run_alone done.config done.state l) done.reached.answers

    abbrev entry : Entry
    entry = entry_by l (run_alone done.config done.state l) done.reached.answers

    abbrev stood : Status
    stood = record { config = done.config; standing = idle done.state }

    abbrev stands : Status
    stands = record { config = done.config; standing = standing_of answered_run }

    ended_so : Ends answered_run r.replies.reply
    ended_so = ends_with answered_run r.replies.reply done.reached.shows

    rests : (id : ℕ) (k : Status) (b : Bool) → (l.id == id) ≡ b → at_place (lives_now new) id ≡ Some k → IsStandingIdle k.standing
    rests id k true is at =
        let here : at_place (lives_now new) l.id ≡ Some k = subst (λ (i : ℕ). at_place (lives_now new) i ≡ Some k) (sym (is_same l.id id is)) at in
        let there : at_place (lives_now new) l.id ≡ Some stands = ap (λ (ks : Lives). at_place ks l.id) done.reached.lives ∙ live_same (lives_now old) l.id stood (Some stands) done.there in
        let same : stands ≡ k = same_Some stands k (sym there ∙ here) in
        record { state = ended_so.finally.state; is = ap (λ (x : Status). x.standing) (sym same) ∙ ap standing_of ended_so.is }
    rests id k false is at =
        at_rest.resting id k (sym (ap (λ (ks : Lives). at_place ks id) done.reached.lives ∙ live_other (lives_now old) l.id id (Some stands) (is_other l.id id is)) ∙ at)

    pub call_follows : Follows old new (line.Call l)
    call_follows = record {
      read = ap as_read done.reached.lives ∙ read_same (lives_now old) l.id stood stands done.there refl;
      begun = done.reached.begun ∙ sym (append-nil old.transcript.lives);
      rest = record {
        told = done.reached.told;
        counted = ap length done.reached.begun ∙ at_rest.counted ∙ sym (ap length done.reached.lives ∙ same_length (lives_now old) l.id (Some stands));
        closed = subst NoneOpen (sym done.reached.entries) (none_open_more old.transcript.entries entry at_rest.closed (over l (run_alone done.config done.state l) done.reached.answers r.replies.reply ended_so));
        resting = λ id k at. rests id k (l.id == id) refl at;
      };
    }

    module _ (handed : List (CacheHooks L W P K)) (all rest : List Line) where
      told_here : IsTold old.transcript l.id stood
      told_here = at_rest.told.each l.id stood done.there

      goes_here : (c : CacheConfig) → config_of l.id old.transcript.lives ≡ Some c → GoesHere c l.id all (line.Call l ∷ rest) (slice_get handed l.id) (slice_get hooks l.id) old.transcript.entries
          → GoesHere c l.id all rest (slice_get handed l.id) (slice_get hooks' l.id) new.transcript.entries
      goes_here c is =
          let same : done.config ≡ c = same_Some done.config c (sym told_here.0 ∙ is) in
          subst (λ (d : CacheConfig). GoesHere d l.id all (line.Call l ∷ rest) (slice_get handed l.id) (slice_get hooks l.id) old.transcript.entries → GoesHere d l.id all rest (slice_get handed l.id) (slice_get hooks' l.id) new.transcript.entries) same
          (λ g. goes_same done.config done.state all rest l old new (slice_get handed l.id) (slice_get hooks l.id) (slice_get hooks' l.id) r.replies.reply (sym told_here.1) g done.reached)

      goes_by : (id : ℕ) (c : CacheConfig) (b : Bool) → (l.id == id) ≡ b → config_of id old.transcript.lives ≡ Some c → GoesHere c id all (line.Call l ∷ rest) (slice_get handed id) (slice_get hooks id) old.transcript.entries
          → GoesHere c id all rest (slice_get handed id) (slice_get hooks' id) new.transcript.entries
      goes_by id c true is config g =
          let Step : ℕ → Type 0 = λ i. config_of i old.transcript.lives ≡ Some c → GoesHere c i all (line.Call l ∷ rest) (slice_get handed i) (slice_get hooks i) old.transcript.entries → GoesHere c i all rest (slice_get handed i) (slice_get hooks' i) new.transcript.entries in
          subst Step (is_same l.id id is) (goes_here c) config g
      goes_by id c false is config g =
          goes_past c id all (line.Call l ∷ rest) rest (slice_get handed id) (slice_get hooks id) (slice_get hooks' id) old.transcript.entries new.transcript.entries (sym (call_of_other id l rest is))
          (ap (entries_of id) done.reached.entries ∙ entry_of_other id old.transcript.entries entry is) (r.others id (is_other l.id id is)) g

      pub call_goes : (id : ℕ) (c : CacheConfig) → (config_of id old.transcript.lives ≡ Some c → GoesHere c id all (line.Call l ∷ rest) (slice_get handed id) (slice_get hooks id) old.transcript.entries) → config_of id new.transcript.lives ≡ Some c
          → GoesHere c id all rest (slice_get handed id) (slice_get hooks' id) new.transcript.entries
      call_goes id c goes config =
          let config' : config_of id old.transcript.lives ≡ Some c = sym (ap (config_of id) done.reached.begun) ∙ config in
          goes_by id c (l.id == id) refl config' (goes config')

      pub call_comes : (id : ℕ) → (length (lives_now old) ≤ id → IsStillToCome id all (line.Call l ∷ rest) (slice_get handed id) (slice_get hooks id)) → length (lives_now new) ≤ id → IsStillToCome id all rest (slice_get handed id) (slice_get hooks' id)
      call_comes id comes beyond =
          let as_many : length (lives_now new) ≡ length (lives_now old) = ap length done.reached.lives ∙ same_length (lives_now old) l.id (Some stands) in
          let given : l.id < length (lives_now old) = live_within (lives_now old) l.id stood done.there in
          let apart : (l.id == id) ≡ false = grind (arith, nat_tests) in
          let before : IsStillToCome id all (line.Call l ∷ rest) (slice_get handed id) (slice_get hooks id) = comes (omega (arith, beyond, as_many)) in
          record { calls = sym (call_of_other id l rest apart) ∙ before.calls; same = r.others id (is_other l.id id apart) ∙ before.same }

-- A call from its begin to its entry in the session's list.
use Rattle.std.proofs.Common.{◌≡◌, ◌⊎◌, ◌+◌, ℕ, arith, length, length-append, Bool, List, [], ◌∷◌, ◌++◌, true, false, Option, Some, None, IsSome, Result, Ok, Err, inl, inr, refl, sym, ◌∙◌, ap, subst}
use Rattle.std.specs.Prelude.{slice_get, is_err, OnErr, MatchResult, IfOk, IfErr}
use Rattle.std.proofs.lemmas.List.Elements.{All-nil, All-push}
use Rattle.jc_model.specs.declared.call.Answer.{Answer}
use Rattle.jc_model.specs.declared.call.Call.{Call}
use Rattle.jc_model.specs.declared.call.Notice.{Notice}
use Rattle.jc_model.specs.declared.call.Reply.{Reply}
use Rattle.jc_model.specs.declared.call.Request.{Request}
use Rattle.jc_model.specs.declared.call.Request.TheVariants.{Load, Write, Delete, Process, Tell}
use Rattle.jc_model.specs.declared.config.CacheConfig.{CacheConfig}
use Rattle.jc_model.specs.declared.event.End.{End}
use Rattle.jc_model.specs.declared.event.End.TheVariants as ends
use Rattle.jc_model.specs.declared.event.Cause.TheVariants as causes
use Rattle.jc_model.specs.declared.event.Entry.{Entry}
use Rattle.jc_model.specs.declared.event.Event.TheVariants as event
use Rattle.jc_model.specs.declared.event.Step.{Step}
use Rattle.jc_model.specs.declared.event.Step.TheVariants.{Done, Need}
use Rattle.jc_engine.specs.Changed.{begun_entry, replied_at_once}
use Rattle.jc_engine.specs.Recording.{blank}
use Rattle.jc_engine.specs.RecordedSteps.{reply_in}
use Rattle.jc_engine.specs.declared.journal.change.CallHeader.{CallHeader}
use Rattle.jc_locked.specs.declared.fault.CallFault.{CallFault}
use Rattle.jc_locked.specs.declared.fault.CallFault.TheVariants as faults
use Rattle.jc_model.specs.Asking.{AsksOf}
use Rattle.jc_hooks.specs.Asking.{states_after}
use Rattle.jc_hooks.proofs.Behind.{tells_more}
use Rattle.jc_locked.specs.declared.hooks.LockedHooks.{LockedHooks}
use Rattle.jc_locked.specs.Serving.{told_behind, TellsOnce, TellsListeners, TellsListenersOn, ServesRequest}
use Rattle.jc_locked.specs.Stated.{Stated, AreStated, IsStatedBy}
use Rattle.jc_locked.specs.Counting.{event_count, CountsOn}
use Rattle.jc_locked.specs.Finding.{ok_or_no_processor, entry_ended_by}
use Rattle.jc_locked.specs.Sessions.{Sitting, Sight}
use Rattle.jc_locked.specs.Living.{Refuses}
use Rattle.jc_locked.specs.Pending.{AddsEntry}
use Rattle.jc_locked.specs.Calls.{IsBeginFault, EntryIsLast, call_entry, IsSameCall, HasEnded, CallStands, CallEndsFaulty, CallGoesOn, Adds, AddsWaiting, CallFails, MayLackProcessor}
use Rattle.jc_shared.specs.Progress.{AddsBegun}

-- no answers are stated ones
no_answers : (h : Option Stated) (call : Call) (answers : List Answer) → answers ≡ [] → AreStated h call answers
no_answers h call answers none = subst (AreStated h call) (sym none) (All-nil (IsStatedBy h call))

pub one_more_answer : (h : Option Stated) (call : Call) (answers : List Answer) (a : Answer) → AreStated h call answers → IsStatedBy h call a → AreStated h call (answers ++ a ∷ [])
one_more_answer h call answers a s is = All-push (IsStatedBy h call) answers a s is

pub on_err : {A E P : Type 0} (r : Result A E) → OnErr r P → is_err r ≡ true → P
on_err (Ok x) p err = absurd cc
on_err (Err e) p err = p

-- of three things that hold where it failed, the second
pub second_on_err : {A E : Type 0} (P Q R : Type 0) (r : Result A E) (e : E) → r ≡ Err e → OnErr r (P × Q × R) → Q
second_on_err P Q R (Ok x) e is h = absurd cc
second_on_err P Q R (Err d) e is h = h.1

pub third_on_err : {A E : Type 0} (P Q R : Type 0) (r : Result A E) (e : E) → r ≡ Err e → OnErr r (P × Q × R) → R
third_on_err P Q R (Ok x) e is h = absurd cc
third_on_err P Q R (Err d) e is h = h.2

-- What the listeners were told, from one moment to the next.
module _ {W K : Type 0} (state_after : K → List Notice → List ℕ) where
  -- they were not told anything
  pub tells_nothing : (old new : LockedHooks W K) (told told' : List Notice) → new.listeners ≡ old.listeners → told' ≡ told → TellsListenersOn state_after old new told told'
  tells_nothing old new told told' same same' = λ first h rest.
      ap (λ ks. states_after state_after ks.items rest) same ∙ h rest ∙ ap (λ (ns : List Notice). states_after state_after first.listeners.items (ns ++ rest)) (sym same')

  -- they were told the first notices of the call
  pub tells_first : (old new : LockedHooks W K) (told told' : List Notice) → told ≡ [] → TellsListeners state_after old new told' → TellsListenersOn state_after old new told told'
  tells_first old new told told' none now = λ first h.
      tells_more state_after first.listeners.items old.listeners.items new.listeners.items [] told' (subst (TellsListeners state_after first old) none h) now

  -- by a request
  pub served_on : (may : W → List (Request × Answer) → Type 0) (old new : LockedHooks W K) (q : Request) (a : Answer) (told : List Notice) → TellsOnce q told → ServesRequest may state_after old new q a → TellsListenersOn state_after old new told (told_behind q told)
  served_on may old new (Tell notices) a told once s = tells_first old new told notices once s.1
  served_on may old new (Write key value) a told once s = tells_nothing old new told told s.1 refl
  served_on may old new (Delete key) a told once s = tells_nothing old new told told s.1 refl
  served_on may old new (Load key) a told once s = tells_nothing old new told told s.1 refl
  served_on may old new (Process key n value argument) a told once s = tells_nothing old new told told s.1 refl

-- a tenure tells nothing
pub goes_untold : (configs : List CacheConfig) (d e : Entry) (pass : Sight) (step : Step) → CallGoesOn configs d step e pass → e.told ≡ d.told
goes_untold configs d e pass (Need q) goes = ap (λ (x : Entry). x.told) goes.0
goes_untold configs d e pass (Done r) goes = ap (λ (x : Entry). x.told) goes.0

-- nor does it answer
pub goes_unanswered : (configs : List CacheConfig) (d e : Entry) (pass : Sight) (step : Step) → CallGoesOn configs d step e pass → e.answers ≡ d.answers
goes_unanswered configs d e pass (Need q) goes = ap (λ (x : Entry). x.answers) goes.0
goes_unanswered configs d e pass (Done r) goes = ap (λ (x : Entry). x.answers) goes.0

-- while it waits its entry stays
pub goes_needed : (configs : List CacheConfig) (d e : Entry) (pass : Sight) (step : Step) (q : Request) → step ≡ Need q → CallGoesOn configs d step e pass → e ≡ d
goes_needed configs d e pass step q is goes = (subst (λ (s : Step). CallGoesOn configs d s e pass) is goes).0

-- the answer that the draft was given
pub noted_waits : (stated : List Stated) (d told d' : Entry) (notices : List Notice) (a : Answer) → told ≡ record d { told = notices } → d' ≡ record told { answers = told.answers ++ a ∷ [] } → d.end ≡ ends.Waiting → AreStated (slice_get stated d.id) d.call d.answers
    → IsStatedBy (slice_get stated d.id) d.call a → (d'.end ≡ ends.Waiting) × AreStated (slice_get stated d'.id) d'.call d'.answers
noted_waits stated d told d' notices a kept noted waits answered is =
    let same : d' ≡ record d { told = notices; answers = d.answers ++ a ∷ [] } = noted ∙ ap (λ (e : Entry). record e { answers = e.answers ++ a ∷ [] }) kept in (
      ap (λ (e : Entry). e.end) same ∙ waits,
      subst (λ (e : Entry). AreStated (slice_get stated e.id) e.call e.answers) (sym same) (one_more_answer (slice_get stated d.id) d.call d.answers a answered is),
    )

-- a tenure has brought it on
pub goes_stays : (configs : List CacheConfig) (stated : List Stated) (d e : Entry) (pass : Sight) (step : Step) → CallGoesOn configs d step e pass → (d.end ≡ ends.Waiting) × AreStated (slice_get stated d.id) d.call d.answers → CallStands configs stated step e pass
goes_stays configs stated d e pass (Need q) goes h = record {
  waits = ap (λ (x : Entry). x.end) goes.0 ∙ h.0;
  asks = subst (λ (x : Entry). AsksOf x.call q) (sym goes.0) goes.1;
  answered = subst (λ (x : Entry). AreStated (slice_get stated x.id) x.call x.answers) (sym goes.0) h.1;
}
goes_stays configs stated d e pass (Done r) goes h = record {
  ended = ap (λ (x : Entry). x.end) goes.0;
  stands = goes.1;
  answered = subst (λ (x : Entry). AreStated (slice_get stated x.id) x.call x.answers) (sym goes.0) h.1;
}

-- it is the call of its draft
pub begun_same : (configs : List CacheConfig) (draft draft' : Entry) (pass : Sight) (step : Step) → CallGoesOn configs draft step draft' pass → IsSameCall draft draft'
begun_same configs draft draft' pass (Need q) goes = subst (IsSameCall draft) (sym goes.0) refl
begun_same configs draft draft' pass (Done r) goes = subst (IsSameCall draft) (sym goes.0) refl

pub same_call : (d e f : Entry) → IsSameCall d e → IsSameCall e f → IsSameCall d f
same_call d e f first second = second ∙ ap (λ (x : Entry). call_entry x.session x.id x.at x.call f.answers f.told f.end) first

module _ (configs : List CacheConfig) (stated : List Stated) (old new : Sitting) (id at : ℕ) (call : Call) (draft e : Entry) (is : draft ≡ blank old.number id at call) (same : IsSameCall draft e) (added : new.calls ≡ old.calls ++ e ∷ []) (counted : new.accepted ≡ old.accepted + event_count e.answers e.end) where
  counted_as : (n : End) → e.end ≡ n → new.accepted ≡ old.accepted + event_count e.answers n
  counted_as n ended = counted ∙ ap (λ (m : End). old.accepted + event_count e.answers m) ended

  entry_is : e ≡ call_entry old.number id at call e.answers e.told e.end
  entry_is = same ∙ ap (λ (x : Entry). call_entry x.session x.id x.at x.call e.answers e.told e.end) is

  ended_as : (n : End) → e.end ≡ n → e ≡ call_entry old.number id at call e.answers e.told n
  ended_as n ended = entry_is ∙ ap (call_entry old.number id at call e.answers e.told) ended

  pub adds : (n : End) → HasEnded configs stated e new.pass n → Adds configs stated old new id at call n
  adds n h =
      let whole : e ≡ call_entry old.number id at call e.answers e.told n = ended_as n h.ended in
      record {
        answers = e.answers;
        told = e.told;
        added = added ∙ ap (λ (x : Entry). old.calls ++ x ∷ []) whole;
        stands = subst (λ (d : Entry). EntryIsLast configs d new.pass) whole h.stands;
        answered = subst (λ (x : Entry). AreStated (slice_get stated x.id) x.call e.answers) entry_is h.answered;
        accepted = counted_as n h.ended;
      }

  adds_waiting : e.end ≡ ends.Waiting → AddsWaiting old new id at call
  adds_waiting ended = record { answers = e.answers; told = e.told; added = added ∙ ap (λ (x : Entry). old.calls ++ x ∷ []) (ended_as ends.Waiting ended); accepted = counted_as ends.Waiting ended }

  pub fails : (fault : CallFault) → CallEndsFaulty configs stated fault e new.pass → CallFails configs stated old new id at call fault
  fails faults.NoSuchCache h = absurd h
  fails faults.NoSuchProcessor h = absurd h
  fails faults.Busy h = absurd h
  fails faults.Overtaken h = adds_waiting h
  fails faults.OutOfMemory h = inr (adds ends.GivenUp h)

  -- at a reply, and else
  pub added_ok : (r : Result Reply CallFault) → MatchResult r (λ reply. CallStands configs stated (Done reply) e new.pass) (λ fault. CallEndsFaulty configs stated fault e new.pass) → IfOk r (λ reply. Adds configs stated old new id at call (ends.Replied reply))
  added_ok (Ok reply) h = adds (ends.Replied reply) h
  added_ok (Err fault) h = tt

  pub added_err : (r : Result Reply CallFault) → MatchResult r (λ reply. CallStands configs stated (Done reply) e new.pass) (λ fault. CallEndsFaulty configs stated fault e new.pass) → IfErr r (λ fault. CallFails configs stated old new id at call fault)
  added_err (Ok reply) h = tt
  added_err (Err fault) h = fails fault h

-- A call that is entered when it has begun.

-- its entry alone is added, which was given no answers
pub entry_adds : (configs : List CacheConfig) (stated : List Stated) (old new : Sitting) (id at : ℕ) (call : Call) (n : End) → event_count [] n ≡ 1 → AddsEntry configs old new (record (blank old.number id at call) { end = n }) → Adds configs stated old new id at call n
entry_adds configs stated old new id at call n one h = record {
  answers = [];
  told = [];
  added = h.added;
  stands = h.stands;
  answered = no_answers (slice_get stated id) call [] refl;
  accepted = h.accepted ∙ ap (λ (k : ℕ). old.accepted + k) (sym one);
}

-- it had its reply at once
pub replied_entry : (configs : List CacheConfig) (old new : Sitting) (id at : ℕ) (call : Call) (begun : CallHeader) (step : Step) (second : Option Reply) (reply copy : Reply) → step ≡ Done reply → second ≡ Some copy → second ≡ reply_in step
    → CallGoesOn configs (blank old.number id at call) step (entry_ended_by second (blank old.number id at call)) new.pass → begun_entry begun ≡ blank old.number id at call → new.calls ≡ old.calls ++ replied_at_once begun copy ∷ [] → new.accepted ≡ old.accepted + 1
    → AddsEntry configs old new (record (blank old.number id at call) { end = ends.Replied reply })
replied_entry configs old new id at call begun step second reply copy turns is copied goes begins added accepted =
    let draft : Entry = blank old.number id at call in
    let e : Entry = record draft { end = ends.Replied copy } in
    let ends_so : CallGoesOn configs draft step e new.pass = subst (λ (r : Option Reply). CallGoesOn configs draft step (entry_ended_by r draft) new.pass) is goes in
    let here : CallGoesOn configs draft (Done reply) e new.pass = subst (λ (t : Step). CallGoesOn configs draft t e new.pass) turns ends_so in
    record {
      added = added ∙ ap (λ (x : Entry). old.calls ++ record x { end = ends.Replied copy } ∷ []) begins ∙ ap (λ (x : Entry). old.calls ++ x ∷ []) here.0;
      stands = subst (λ (x : Entry). EntryIsLast configs x new.pass) here.0 here.1;
      accepted = accepted;
    }

-- it waits
pub waiting_adds : (old new : Sitting) (id at : ℕ) (call : Call) (begun : CallHeader) → begun_entry begun ≡ blank old.number id at call → new.calls ≡ old.calls ++ begun_entry begun ∷ [] → new.accepted ≡ old.accepted + 1 → AddsWaiting old new id at call
waiting_adds old new id at call begun begins added accepted = record { answers = []; told = []; added = added ∙ ap (λ (x : Entry). old.calls ++ x ∷ []) begins; accepted = accepted }

-- what it has come to by its first step, at a reply and else
module _ (configs : List CacheConfig) (stated : List Stated) (old new : Sitting) (id at : ℕ) (call : Call) (begun : CallHeader) (step : Step) (second : Option Reply) (copied : second ≡ reply_in step) (goes : CallGoesOn configs (blank old.number id at call) step (entry_ended_by second (blank old.number id at call)) new.pass)
    (begins : begun_entry begun ≡ blank old.number id at call) (accepted : new.accepted ≡ old.accepted + 1) where
  pub begun_ok : (r : Result Reply CallFault) → AddsBegun begun step old.calls new.calls r → IfOk r (λ reply. Adds configs stated old new id at call (ends.Replied reply))
  begun_ok (Ok reply) h = entry_adds configs stated old new id at call (ends.Replied reply) refl (replied_entry configs old new id at call begun step second reply reply h.0 (copied ∙ ap reply_in h.0) copied goes begins h.1 accepted)
  begun_ok (Err fault) h = tt

  pub begun_err : (r : Result Reply CallFault) → AddsBegun begun step old.calls new.calls r → IfErr r (λ fault. CallFails configs stated old new id at call fault)
  begun_err (Ok reply) h = tt
  begun_err (Err fault) h = subst (λ (f : CallFault). CallFails configs stated old new id at call f) (sym h.0) (waiting_adds old new id at call begun begins h.1 accepted)

-- it was not accepted
pub not_accepted : (b : Bool) (fault : CallFault) → Err fault ≡ ok_or_no_processor b → b ≡ false
not_accepted true fault is = absurd cc
not_accepted false fault is = refl

pub unaccepted_fails : (configs : List CacheConfig) (stated : List Stated) (old new : Sitting) (id at : ℕ) (call : Call) (fault : CallFault) → fault ≡ faults.NoSuchProcessor → new ≡ old → MayLackProcessor configs id call → IsSome (slice_get configs id) → CallFails configs stated old new id at call fault
unaccepted_fails configs stated old new id at call fault is same lacks there =
    subst (λ (f : CallFault). CallFails configs stated old new id at call f) (sym is) (same, lacks, λ none. absurd (not_both (slice_get configs id) there none))
  where
    not_both : (o : Option CacheConfig) → IsSome o → o ≡ None → ⊥
    not_both None some none = absurd cc
    not_both (Some c) some none = absurd cc

-- the engine did not begin it
pub begin_fails : (configs : List CacheConfig) (stated : List Stated) (old new : Sitting) (id at : ℕ) (call : Call) (fault : CallFault) → new ≡ old → IsBeginFault configs id at call fault → CallFails configs stated old new id at call fault
begin_fails configs stated old new id at call faults.NoSuchCache same h = (same, λ c there. h)
begin_fails configs stated old new id at call faults.NoSuchProcessor same h = (same, h.1, λ none. h.0)
begin_fails configs stated old new id at call faults.Busy same h = (same, h)
begin_fails configs stated old new id at call faults.Overtaken same h = absurd h
begin_fails configs stated old new id at call faults.OutOfMemory same h = inl same

-- and so of one whose cache is not there
pub told_or_gone : (configs : List CacheConfig) (stated : List Stated) (old new : Sitting) (id at : ℕ) (call : Call) (fault told : CallFault) → new ≡ old
    → (told ≡ fault) ⊎ ((told ≡ faults.NoSuchCache) × ((at : ℕ) (call : Call) → Refuses configs (event.Begin id at call) causes.NoSuchCache)) → CallFails configs stated old new id at call fault → CallFails configs stated old new id at call told
told_or_gone configs stated old new id at call fault told same which fails = elim which [
  | inl is ↦ subst (λ (f : CallFault). CallFails configs stated old new id at call f) (sym is) fails
  | inr is ↦ subst (λ (f : CallFault). CallFails configs stated old new id at call f) (sym is.0) (same, λ c there. is.1 at call)
]

-- Counting the events of a call.

-- from one moment over a second to a third
pub counts_on : (a b c : ℕ) (d e f : Entry) → CountsOn a b d e → CountsOn b c e f → CountsOn a c d f
counts_on a b c d e f first second = omega (arith, first, second)

-- no event was accepted
pub counts_none : (a b : ℕ) (d e : Entry) (told : List Notice) → b ≡ a → e ≡ record d { told = told } → CountsOn a b d e
counts_none a b d e told same is = ap (λ (k : ℕ). k + event_count d.answers d.end) same ∙ ap (λ (x : Entry). a + event_count x.answers x.end) (sym is)

-- an entry that has as many events
pub counts_from : (a b : ℕ) (d n e : Entry) → n.answers ≡ d.answers → n.end ≡ d.end → CountsOn a b n e → CountsOn a b d e
counts_from a b d n e answers ends_so counted =
    let same : event_count n.answers n.end ≡ event_count d.answers d.end = (λ i. event_count (answers i) (ends_so i)) in
    omega (arith, same, counted)

pub counts_since : (a m b : ℕ) (d n e : Entry) → m ≡ a → n.answers ≡ d.answers → n.end ≡ d.end → CountsOn m b n e → CountsOn a b d e
counts_since a m b d n e same answers ends_so counted = counts_from a b d n e answers ends_so (subst (λ (k : ℕ). CountsOn k b n e) same counted)

-- a tenure accepts one event: the answer that the draft was given, or its give-up
pub counts_step : (configs : List CacheConfig) (a : ℕ) (d e : Entry) (pass : Sight) (x : Answer) (answers : List Answer) (step : Step) → CallGoesOn configs d step e pass → d.answers ≡ answers ++ x ∷ [] → d.end ≡ ends.Waiting → (n : Entry) → n.answers ≡ answers → n.end ≡ ends.Waiting → CountsOn a (a + 1) n e
counts_step configs a d e pass x answers step goes given waits n same n_waits =
    let many : length e.answers ≡ length answers + 1 = ap length (goes_unanswered configs d e pass step goes ∙ given) ∙ length-append answers (x ∷ []) in
    let now : event_count e.answers e.end ≡ length answers + 2 = by step goes many in
    let before : event_count n.answers n.end ≡ length answers + 1 = ap (λ (m : End). event_count n.answers m) n_waits ∙ ap (λ (given : List Answer). length given + 1) same in
    omega (arith, now, before)
  where
    by : (step : Step) → CallGoesOn configs d step e pass → length e.answers ≡ length answers + 1 → event_count e.answers e.end ≡ length answers + 2
    by (Need q) goes many = ap (λ (m : End). event_count e.answers m) (ap (λ (y : Entry). y.end) goes.0 ∙ waits) ∙ (ap (λ (k : ℕ). k + 1) many ∙ omega arith)
    by (Done r) goes many = ap (λ (m : End). event_count e.answers m) (ap (λ (y : Entry). y.end) goes.0) ∙ (ap (λ (k : ℕ). k + 1) many ∙ omega arith)

pub counts_resumed : (configs : List CacheConfig) (a b : ℕ) (d n e : Entry) (pass : Sight) (x : Answer) (step : Step) → CallGoesOn configs n step e pass → n.answers ≡ d.answers ++ x ∷ [] → n.end ≡ ends.Waiting → d.end ≡ ends.Waiting → b ≡ a + 1 → CountsOn a b d e
counts_resumed configs a b d n e pass x step goes given waits first one =
    subst (λ (k : ℕ). CountsOn a k d e) (sym one) (counts_step configs a n e pass x d.answers step goes given waits d refl first)

pub counts_given_up : (a : ℕ) (d e : Entry) → e.answers ≡ d.answers → d.end ≡ ends.Waiting → e.end ≡ ends.GivenUp → CountsOn a (a + 1) d e
counts_given_up a d e same waits given_up =
    let now : event_count e.answers e.end ≡ length d.answers + 2 = ap (λ (m : End). event_count e.answers m) given_up ∙ ap (λ (given : List Answer). length given + 2) same in
    let before : event_count d.answers d.end ≡ length d.answers + 1 = ap (λ (m : End). event_count d.answers m) waits in
    omega (arith, now, before)

-- all of its events, from its begin on
pub counts_all : (a b c : ℕ) (blank d e : Entry) → blank.answers ≡ [] → blank.end ≡ ends.Waiting → d ≡ blank → b ≡ a + 1 → CountsOn b c d e → c ≡ a + event_count e.answers e.end
counts_all a b c blank d e none waits same begun counted =
    let one : event_count d.answers d.end ≡ 1 = ap (λ (y : Entry). event_count y.answers y.end) same ∙ ap (λ (m : End). event_count blank.answers m) waits ∙ ap (λ (given : List Answer). length given + 1) none in
    omega (arith, one, begun, counted)

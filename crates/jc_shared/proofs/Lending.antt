-- A call whose requests are answered by what is lent to it.
use Rattle.std.proofs.Common.{◌≡◌, ◌⊎◌, ◌+◌, ◌++◌, ◌∷◌, [], ℕ, List, inl, inr, length, length-append, arith, sym, ap, subst, ◌∙◌}
use Rattle.jc_model.specs.declared.call.Answer.{Answer}
use Rattle.jc_model.specs.declared.call.Call.{Call}
use Rattle.jc_model.specs.declared.call.Reply.{Reply}
use Rattle.jc_model.specs.declared.config.CacheConfig.{CacheConfig}
use Rattle.jc_model.specs.declared.event.End.{End}
use Rattle.jc_model.specs.declared.event.End.TheVariants as ends
use Rattle.jc_model.specs.declared.event.Entry.{Entry}
use Rattle.jc_model.specs.declared.event.Step.{Step}
use Rattle.jc_model.specs.declared.event.Step.TheVariants.{Done, Need}
use Rattle.jc_model.specs.Asking.{AsksOf}
use Rattle.jc_engine.specs.Recording.{blank}
use Rattle.jc_locked.specs.declared.fault.CallFault.{CallFault}
use Rattle.jc_locked.specs.declared.fault.CallFault.TheVariants as faults
use Rattle.jc_locked.specs.Calls.{EntryIsLast, IsSameCall, CallGoesOn, call_entry}
use Rattle.jc_locked.specs.Counting.{event_count}
use Rattle.jc_locked.specs.Finding.{IsReplied}
use Rattle.jc_locked.specs.Pending.{Pending, AddsEntry, answered_entry}
use Rattle.jc_locked.specs.Sessions.{Sitting, Sight}
use Rattle.jc_shared.specs.declared.pending.Progress.{Progress}
use Rattle.jc_shared.specs.declared.pending.Progress.TheVariants as progress
use Rattle.jc_shared.specs.Progress.{AddsCall, AddsWaited, LeavesOpen, EndsBy, FailsBy, IsBroughtTo, ShowsAs}

-- a tenure has begun a call, or given it an answer, and the session has noted it
pub brought_to : (configs : List CacheConfig) (old mid new : Sitting) (d e : Entry) (step : Step) (to : Progress Pending) → mid.number ≡ old.number → mid.calls ≡ old.calls → mid.accepted ≡ old.accepted + 1 → IsReplied step ⊎ (mid.pass ≡ old.pass)
    → CallGoesOn configs d step e mid.pass → ShowsAs mid e step new to → IsBroughtTo configs old new d to
brought_to configs old mid new d e (Done reply) (progress.Replied shown) number calls accepted unseen goes shows =
    let whole : e ≡ record d { end = ends.Replied shown } = goes.0 ∙ ap (λ (r : Reply). record d { end = ends.Replied r }) (sym shows.0) in
    record {
      added = ap (λ (s : Sitting). s.calls) shows.1 ∙ (ap (λ (es : List Entry). es ++ e ∷ []) calls ∙ ap (λ (x : Entry). old.calls ++ x ∷ []) whole);
      stands = subst (λ (x : Entry). EntryIsLast configs x new.pass) whole (subst (λ (pass : Sight). EntryIsLast configs e pass) (sym (ap (λ (s : Sitting). s.pass) shows.1)) goes.1);
      accepted = ap (λ (s : Sitting). s.accepted) shows.1 ∙ accepted;
    }
brought_to configs old mid new d e (Need q) (progress.Waits p) number calls accepted (inl replied) goes shows = absurd replied
brought_to configs old mid new d e (Need q) (progress.Waits p) number calls accepted (inr same) goes shows =
    let is : mid ≡ record old { accepted = old.accepted + 1 } = (λ i. record { number = number i; calls = calls i; accepted = accepted i; pass = same i }) in (
      shows.1 ∙ is,
      ap (λ (x : Pending). x.draft) shows.0 ∙ goes.0,
      subst (λ (x : Pending). AsksOf d.call x.request) (sym shows.0) goes.1,
    )
brought_to configs old mid new d e (Done reply) (progress.Waits p) number calls accepted unseen goes shows = absurd shows
brought_to configs old mid new d e (Need q) (progress.Replied shown) number calls accepted unseen goes shows = absurd shows

-- a call that had its reply in the tenure of its begin
at_once : (configs : List CacheConfig) (old new : Sitting) (session id at : ℕ) (call : Call) (n : End) → event_count [] n ≡ 1 → AddsEntry configs old new (record (blank session id at call) { end = n }) → AddsCall configs old new (blank session id at call) n
at_once configs old new session id at call n one h = record {
  answers = [];
  told = [];
  added = h.added;
  stands = h.stands;
  accepted = let accepted = h.accepted in omega (arith, accepted, one);
}

pub replied_call : (configs : List CacheConfig) (old new : Sitting) (session id at : ℕ) (call : Call) (d : Entry) (n : End) → event_count [] n ≡ 1 → d ≡ blank session id at call → AddsEntry configs old new (record d { end = n }) → AddsCall configs old new d n
replied_call configs old new session id at call d n one is h =
    subst (λ (x : Entry). AddsCall configs old new x n) (sym is) (at_once configs old new session id at call n one (subst (λ (x : Entry). AddsEntry configs old new (record x { end = n })) is h))

-- a call that waits was given an answer, or was given up, and has come to its end
pub ends_waited : (configs : List CacheConfig) (now new : Sitting) (p e : Entry) (n : End) → e ≡ call_entry p.session p.id p.at p.call e.answers e.told n → event_count e.answers n ≡ length p.answers + 2 → AddsEntry configs now new e → AddsWaited configs now new p n
ends_waited configs now new p e n whole many adds = record {
  answers = e.answers;
  told = e.told;
  added = adds.added ∙ ap (λ (x : Entry). now.calls ++ x ∷ []) whole;
  stands = subst (λ (x : Entry). EntryIsLast configs x new.pass) whole adds.stands;
  accepted = let one = adds.accepted in omega (arith, one, many);
}

-- since a moment when it had been given fewer answers
pub adds_on : (configs : List CacheConfig) (first now new : Sitting) (d p : Entry) (n : End) → IsSameCall d p → LeavesOpen first now → now.accepted + length d.answers ≡ first.accepted + length p.answers → AddsWaited configs now new p n → AddsWaited configs first new d n
adds_on configs first now new d p n same stays counted adds =
    let whole : call_entry p.session p.id p.at p.call adds.answers adds.told n ≡ call_entry d.session d.id d.at d.call adds.answers adds.told n = ap (λ (x : Entry). call_entry x.session x.id x.at x.call adds.answers adds.told n) same in
    record {
      answers = adds.answers;
      told = adds.told;
      added = adds.added ∙ (ap (λ (s : Sitting). s.calls ++ call_entry p.session p.id p.at p.call adds.answers adds.told n ∷ []) stays ∙ ap (λ (x : Entry). first.calls ++ x ∷ []) whole);
      stands = subst (λ (x : Entry). EntryIsLast configs x new.pass) whole adds.stands;
      accepted = let since = adds.accepted in omega (arith, since, counted);
    }

leaves_on : (first now new : Sitting) → LeavesOpen first now → LeavesOpen now new → LeavesOpen first new
leaves_on first now new stays stays' = stays' ∙ ap (λ (s : Sitting). record s { accepted = new.accepted }) stays

pub ends_on : (configs : List CacheConfig) (first now new : Sitting) (d p : Entry) (fault : CallFault) → IsSameCall d p → LeavesOpen first now → now.accepted + length d.answers ≡ first.accepted + length p.answers → EndsBy configs now new p fault → EndsBy configs first new d fault
ends_on configs first now new d p faults.OutOfMemory same stays counted ends_so = adds_on configs first now new d p ends.GivenUp same stays counted ends_so
ends_on configs first now new d p faults.Overtaken same stays counted ends_so = leaves_on first now new stays ends_so
ends_on configs first now new d p faults.NoSuchCache same stays counted ends_so = absurd ends_so
ends_on configs first now new d p faults.NoSuchProcessor same stays counted ends_so = absurd ends_so
ends_on configs first now new d p faults.Busy same stays counted ends_so = absurd ends_so

-- it was given an answer, and waits
pub waits_on : (first now new : Sitting) (d : Entry) (p : Pending) (a : Answer) (e : Entry) → IsSameCall d p.draft → LeavesOpen first now → now.accepted + length d.answers ≡ first.accepted + length p.draft.answers → new ≡ record now { accepted = now.accepted + 1 } → e ≡ answered_entry p a
    → IsSameCall d e × LeavesOpen first new × (new.accepted + length d.answers ≡ first.accepted + length e.answers)
waits_on first now new d p a e same stays counted grown is =
    let given = answered_entry p a in
    let one : new.accepted ≡ now.accepted + 1 = ap (λ (s : Sitting). s.accepted) grown in
    let many : length e.answers ≡ length p.draft.answers + 1 = ap (λ (x : Entry). length x.answers) is ∙ length-append p.draft.answers (a ∷ []) in (
      subst (IsSameCall d) (sym is) (ap (λ (x : Entry). call_entry x.session x.id x.at x.call given.answers given.told p.draft.end) same),
      grown ∙ (ap (λ (s : Sitting). record s { accepted = now.accepted + 1 }) stays ∙ ap (λ (k : ℕ). record first { accepted = k }) (sym one)),
      omega (arith, one, many, counted),
    )

-- from its begin on
pub from_begin : (configs : List CacheConfig) (first now new : Sitting) (d : Entry) (n : End) → now ≡ record first { accepted = first.accepted + 1 } → d.answers ≡ [] → AddsWaited configs now new d n → AddsCall configs first new d n
from_begin configs first now new d n begun none adds =
    let before : length d.answers ≡ 0 = ap length none in
    let one : now.accepted ≡ first.accepted + 1 = ap (λ (s : Sitting). s.accepted) begun in
    let all = adds.accepted in
    record {
      answers = adds.answers;
      told = adds.told;
      added = adds.added ∙ ap (λ (s : Sitting). s.calls ++ call_entry d.session d.id d.at d.call adds.answers adds.told n ∷ []) begun;
      stands = adds.stands;
      accepted = omega (arith, before, one, all);
    }

-- it ends so from its begin on
pub from_begin_ends : (configs : List CacheConfig) (first now new : Sitting) (d : Entry) (fault : CallFault) → now ≡ record first { accepted = first.accepted + 1 } → d ≡ blank first.number d.id d.at d.call → EndsBy configs now new d fault → FailsBy configs first new d.id d.at d.call fault
from_begin_ends configs first now new d faults.OutOfMemory begun is ends_so =
    inr (subst (λ (x : Entry). AddsCall configs first new x ends.GivenUp) is (from_begin configs first now new d ends.GivenUp begun (ap (λ (x : Entry). x.answers) is) ends_so))
from_begin_ends configs first now new d faults.Overtaken begun is ends_so = ends_so ∙ ap (λ (s : Sitting). record s { accepted = new.accepted }) begun
from_begin_ends configs first now new d faults.NoSuchCache begun is ends_so = absurd ends_so
from_begin_ends configs first now new d faults.NoSuchProcessor begun is ends_so = absurd ends_so
from_begin_ends configs first now new d faults.Busy begun is ends_so = absurd ends_so

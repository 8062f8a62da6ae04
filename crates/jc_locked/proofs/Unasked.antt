-- A call on a cache without callbacks makes no request.
use Rattle.std.proofs.Common.{◌≡◌, not, ltb, ℕ, Bool, true, false, List, [], ◌∷◌, length, Option, Some, None, refl, sym, subst, ◌∙◌, ap, arith, if◌then◌else◌}
use Rattle.std.proofs.lemmas.Grind.{common_steps}
use Rattle.std.proofs.lemmas.List.Elements.{All-head, All-tail, All-map}
use Rattle.std.specs.List.{All}
use Rattle.jc_model.specs.declared.call.Call.{Call}
use Rattle.jc_model.specs.declared.call.Call.TheVariants.{Entries, GetAll, InvokeAll, LoadAll, PutAll, RemoveAll, RemoveKeys}
use Rattle.jc_model.specs.declared.call.KeyCall.{KeyCall}
use Rattle.jc_model.specs.declared.call.Notice.{Notice}
use Rattle.jc_model.specs.declared.call.Op.{Op}
use Rattle.jc_model.specs.declared.call.Op.TheVariants as op
use Rattle.jc_model.specs.declared.call.Reply.{Reply}
use Rattle.jc_model.specs.declared.config.CacheConfig.{CacheConfig}
use Rattle.jc_model.specs.declared.table.Ask.{Ask}
use Rattle.jc_model.specs.declared.table.Ask.TheVariants as ask
use Rattle.jc_model.specs.declared.table.Change.{Change}
use Rattle.jc_model.specs.declared.table.TableLine.{TableLine}
use Rattle.jc_model.specs.Bulk.{Sum, empty_sum, same_op}
use Rattle.jc_model.specs.Changes.{Progress, begun, find_row, notify, purge, store, with_room, update, delete, create, create_by_put, make_room}
use Rattle.jc_model.specs.Run.{Run, ended, waiting, and_then}
use Rattle.jc_model.specs.Runs.{Lives, Status, Standing, idle, busy, begins, answer_of, answer_to, has_processor, refuse_last, reply_of, shown}
use Rattle.std.proofs.lemmas.Bool.Decides.{nat_tests}
use Rattle.jc_model.specs.State.{Item, State}
use Rattle.jc_model.specs.declared.event.Cause.TheVariants as causes
use Rattle.jc_model.specs.declared.event.Outcome.TheVariants as outcome
use Rattle.jc_model.specs.declared.event.Step.{Step}
use Rattle.jc_model.specs.declared.event.Step.TheVariants.{Done}
use Rattle.jc_engine.specs.Caches.{asks_no_one}
use Rattle.jc_model.specs.declared.event.Event.TheVariants as event
use Rattle.jc_model.specs.Legal.{History, Tells}
use Rattle.jc_model.specs.Places.{at_place}
use Rattle.jc_locked.specs.Finding.{IsReplied}
use Rattle.jc_locked.specs.Sessions.{BeginsWith}
use Rattle.jc_locked.specs.Unasked.{HasNoCallbacks}
use Rattle.jc_locked.proofs.Tenures.{opening_config}
use Rattle.jc_model.specs.Step.{step, changed, counted, ended_by, by_writer, by_loader, by_processor, by_ask, carried, expecting, on_row, live_in}
use Rattle.jc_model.specs.Table.{live_line, absent_line, otherwise, expected_by, value_of, invoked_by}
use Rattle.jc_model.specs.Whole.{Plan, one, many, at_once, after_key, each, key_call, other_plan, plan, carried_out, told_first, whole, touch_each}

-- it has ended, and tells nothing
abbrev pub Ends : Run → Type 0
Ends (ended p r) = p.notices ≡ []
Ends (waiting q p resumed) = ⊥

no_place : (n places : ℕ) → places ≡ 0 → ltb n places ≡ true → ⊥
no_place n places none within = grind (arith, common_steps)

module _ (c : CacheConfig) (now : ℕ) (unloaded : c.loader ≡ false) (unwritten : c.writer ≡ false) (unheard : c.listeners ≡ 0) where
  abbrev Silent : Progress → Type 0
  Silent p = p.notices ≡ []

  deaf : ltb 0 c.listeners ≡ false
  deaf = rw unheard refl

  notify-silent : (n : Notice) (p : Progress) → Silent p → Silent (notify c now n p)
  notify-silent n p s = rw deaf s

  make_room-silent : (p : Progress) → Silent p → Silent (make_room c now p)
  make_room-silent p s = grind (arith, common_steps, deaf)

  with_room-silent : (p : Progress) → Silent p → Silent (with_room c now p)
  with_room-silent p s = grind (arith, common_steps, make_room-silent)

  store-silent : (k v : List ℕ) (e : _) (p : Progress) → Silent p → Silent (store c now k v e p)
  store-silent k v e p s = let roomy = with_room-silent p s in grind (arith, common_steps, deaf)

  create-silent : (k v : List ℕ) (p : Progress) → Silent p → Silent (create c now k v p)
  create-silent k v p s = grind (arith, common_steps, store-silent)

  create_by_put-silent : (k v : List ℕ) (p : Progress) → Silent p → Silent (create_by_put c now k v p)
  create_by_put-silent k v p s = grind (arith, common_steps, store-silent)

  purge-silent : (k : List ℕ) (p : Progress) → Silent p → Silent (purge c now k p)
  purge-silent k p s = grind (arith, common_steps, deaf)

  update-silent : (x : Item) (v : List ℕ) (p : Progress) → Silent p → Silent (update c now x v p)
  update-silent x v p s = rw deaf s

  delete-silent : (x : Item) (p : Progress) → Silent p → Silent (delete c now x p)
  delete-silent x p s = rw deaf s

  changed-silent : (k : List ℕ) (kind : Change) (row : Option Item) (v : Option (List ℕ)) (p : Progress) → Silent p → Silent (changed c now k kind row v p)
  changed-silent k kind row v p s = grind (arith, common_steps, create-silent, create_by_put-silent, update-silent, delete-silent)

  counted-silent : (counts : Bool) (row : Option Item) (p : Progress) → Silent p → Silent (counted counts row p)
  counted-silent counts row p s = grind (arith, common_steps)

  -- one step of another operation than a processor's
  module _ (k : List ℕ) (o : Op) (uninvoked : invoked_by o ≡ None) (p : Progress) (silent : Silent p) where
    ended_by-ends : (l : TableLine) (row : Option Item) (v shown : Option (List ℕ)) → Ends (ended_by c now k l row v shown p)
    ended_by-ends l row v shown = changed-silent k l.change row v (counted l.counts row p) (counted-silent l.counts row p silent)

    by_writer-ends : (a : Ask) (v : Option (List ℕ)) (done : Run) → Ends done → Ends (by_writer c now k a v p done)
    by_writer-ends a v done e = grind (arith, common_steps, unwritten)

    by_loader-ends : (l : TableLine) (row : Option Item) → Ends (by_loader c now k l row p)
    by_loader-ends l row = rw unloaded (ended_by-ends l row None None)

    by_ask-ends : (a : Ask) (l : TableLine) (row : Option Item) → Ends (by_ask c now k a o l row p)
    by_ask-ends ask.Load l row = by_loader-ends l row
    by_ask-ends ask.Process l row = by (invoked_by o) uninvoked
      where
        by : (i : Option (ℕ × List ℕ)) → i ≡ None → Ends (elim i [ None ↦ ended_by c now k l row None None p | Some i ↦ by_processor c now k i.0 i.1 l row p ])
        by None is = ended_by-ends l row None None
        by (Some i) is = absurd (cc)
    by_ask-ends ask.Nothing l row = by_writer-ends ask.Nothing (value_of o) (ended_by c now k l row (value_of o) (live_in row) p) (ended_by-ends l row (value_of o) (live_in row))
    by_ask-ends ask.Write l row = by_writer-ends ask.Write (value_of o) (ended_by c now k l row (value_of o) (live_in row) p) (ended_by-ends l row (value_of o) (live_in row))
    by_ask-ends ask.Delete l row = by_writer-ends ask.Delete (value_of o) (ended_by c now k l row (value_of o) (live_in row) p) (ended_by-ends l row (value_of o) (live_in row))

    carried-ends : (l : TableLine) (row : Option Item) → Ends (carried c now k o l row p)
    carried-ends l row = by_ask-ends l.asks l row

    on_row-ends : (row : Option Item) → Ends (on_row c now (record { key = k; op = o }) row p)
    on_row-ends None = carried-ends (absent_line o) None
    on_row-ends (Some x) = by (expected_by o)
      where
        by : (e : Option (List ℕ)) → Ends (expecting e x.value (carried c now k o (live_line o) (Some x) p) (carried c now k o otherwise (Some x) p))
        by e =
            let live = carried-ends (live_line o) (Some x) in
            let other = carried-ends otherwise (Some x) in
            grind (arith, common_steps)

  abbrev Uninvoked : KeyCall → Type 0
  Uninvoked call = invoked_by call.op ≡ None

  step-ends : (call : KeyCall) (p : Progress) → Uninvoked call → Silent p → Ends (step c now call p)
  step-ends call p un s = on_row-ends call.key call.op un (purge c now call.key p) (purge-silent call.key p s) (find_row call.key (purge c now call.key p))

  and_then-ends : (run : Run) (next : Progress → Reply → Run) → Ends run → ((p : Progress) (r : Reply) → Silent p → Ends (next p r)) → Ends (and_then run next)
  and_then-ends (ended p r) next e h = h p r e
  and_then-ends (waiting q p resumed) next e h = absurd e

  after_key-ends : (k : List ℕ) (go_on : Sum → Progress → Run) (sum : Sum) (p : Progress) (r : Reply) → Silent p → ((next : Sum) → Ends (go_on next p)) → Ends (after_key k go_on sum p r)
  after_key-ends k go_on sum p r s rest = grind (arith, common_steps)

  each-ends : (calls : List KeyCall) (sum : Sum) (p : Progress) → All Uninvoked calls → Silent p → Ends (each c now calls sum p)
  each-ends [] sum p un s = s
  each-ends (call ∷ calls) sum p un s =
      and_then-ends _ _ (step-ends call p (All-head Uninvoked call calls un) s)
      (λ q r t. after_key-ends call.key (λ next q. each c now calls next q) sum q r t (λ next. each-ends calls next q (All-tail Uninvoked call calls un) t))

  -- the steps of a plan are no processor's, and what it changes at once tells nothing
  abbrev IsFree : Plan → Type 0
  IsFree (one k o) = invoked_by o ≡ None
  IsFree (many calls gathered) = All Uninvoked calls
  IsFree (at_once p r) = Silent p

  carried_out-ends : (todo : Plan) (p : Progress) → IsFree todo → Silent p → Ends (carried_out c now todo p)
  carried_out-ends (one k o) p free s = step-ends (record { key = k; op = o }) p free s
  carried_out-ends (many calls gathered) p free s = each-ends calls (empty_sum gathered) p free s
  carried_out-ends (at_once q r) p free s = free

  told_first-ends : (p : Progress) (r : Reply) → Silent p → Ends (told_first p r)
  told_first-ends p r s = grind (arith, common_steps)

  same-free : (o : Op) → invoked_by o ≡ None → (keys : List (List ℕ)) → All Uninvoked (same_op o keys)
  same-free o un keys = All-map Uninvoked _ keys (λ k d below. un)

  touch_each-silent : (xs : List Item) (p : Progress) → Silent p → Silent (touch_each c now xs p)
  touch_each-silent [] p s = s
  touch_each-silent (x ∷ xs) p s = touch_each-silent xs _ (grind (arith, common_steps))

  other-free : (call : Call) (p : Progress) → has_processor c call ≡ true → length c.processors ≡ 0 → Silent p → IsFree (other_plan c now call p)
  other-free (GetAll ks) p has none s = same-free op.Get refl ks
  other-free (InvokeAll ks processor argument) p has none s = absurd (no_place processor (length c.processors) none has)
  other-free (PutAll given) p has none s = All-map Uninvoked _ given (λ k d below. refl)
  other-free (RemoveKeys ks) p has none s = same-free op.Remove refl ks
  other-free RemoveAll p has none s = All-map Uninvoked _ p.state.ring (λ x d below. grind (arith, common_steps))
  other-free (LoadAll ks replace) p has none s = same-free (op.Load replace) refl ks
  other-free Entries p has none s = touch_each-silent p.state.ring p s
  other-free _ p has none s = s

  plan-free : (call : Call) (p : Progress) → has_processor c call ≡ true → length c.processors ≡ 0 → Silent p → IsFree (plan c now call p)
  plan-free call p has none s = by (key_call call) refl
    where
      by : (o : Option KeyCall) → key_call call ≡ o → IsFree (elim o [ Some s ↦ one s.key s.op | None ↦ other_plan c now call p ])
      by None e = other-free call p has none s
      by (Some k) e = grind (arith, common_steps)

  whole-ends : (call : Call) (s : State) → has_processor c call ≡ true → length c.processors ≡ 0 → Ends (whole c now call s)
  whole-ends call s has none =
      and_then-ends _ told_first (carried_out-ends (plan c now call (begun s)) (begun s) (plan-free call (begun s) has none refl) refl) told_first-ends

-- the parts of a configuration without callbacks
record Parts (c : CacheConfig) : Type 0 where
  unloaded : c.loader ≡ false
  unwritten : c.writer ≡ false
  unprocessed : length c.processors ≡ 0
  unheard : c.listeners ≡ 0

parts_of : (c : CacheConfig) → asks_no_one c ≡ true → Parts c
parts_of c is = grind (arith, common_steps, nat_tests)

-- so a begin is answered with its reply, or refused
begins_replied : (c : CacheConfig) → asks_no_one c ≡ true → (standing : Standing) (now : ℕ) (call : Call) (first : Step) (m : Bool) → outcome.Step first ≡ refuse_last m (reply_of c standing (begins now call)) → IsReplied first
begins_replied c is (busy w p resumed) now call first m answered = absurd cc
begins_replied c is (idle s) now call first m answered = has (has_processor c call) refl answered
  where
    parts : Parts c
    parts = parts_of c is

    shows : (run : Run) → Ends run → outcome.Step first ≡ refuse_last m (shown run) → IsReplied first
    shows (ended p r) e same = done m same
      where
        done : (m : Bool) → outcome.Step first ≡ (if m then outcome.Refused causes.OutOfMemory else outcome.Step (Done r)) → IsReplied first
        done true same = absurd cc
        done false same = let is : first ≡ Done r = cc in subst IsReplied (sym is) tt
    shows (waiting q p resumed) e same = absurd e

    has : (b : Bool) → has_processor c call ≡ b → outcome.Step first ≡ refuse_last m (if b then shown (whole c now call s) else outcome.Refused causes.NoSuchProcessor) → IsReplied first
    has false lacks same = absurd cc
    has true there same = shows (whole c now call s) (whole-ends c now parts.unloaded parts.unwritten parts.unheard call s there parts.unprocessed) same

not_false : (b : Bool) → not b ≡ false → b ≡ true
not_false true h = refl
not_false false h = absurd cc

-- a call on a cache of the opening without callbacks has its reply at once, if it begins
pub unasked_replies : (configs : List CacheConfig) (h : History) (lives : Lives) → BeginsWith configs h → Tells h lives → (id now : ℕ) (call : Call) (first : Step) (m : Bool)
    → outcome.Step first ≡ answer_to lives (event.Begin id now call) m → HasNoCallbacks configs id → IsReplied first
unasked_replies configs h lives begin tells id now call first m answered named = at (at_place lives id) refl answered
  where
    at : (found : Option Status) → at_place lives id ≡ found → outcome.Step first ≡ answer_of found (begins now call) m → IsReplied first
    at None live same = absurd cc
    at (Some k) live same =
        let is : k.config ≡ named.config = opening_config configs h lives begin tells id k named.config live named.there in
        begins_replied k.config (ap asks_no_one is ∙ not_false (asks_no_one named.config) named.none) k.standing now call first m same

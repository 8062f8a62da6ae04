-- The entry of an open call is the last of its cache.
use Rattle.std.proofs.Common.{◌≡◌, ℕ, zero, suc, Bool, true, false, if◌then◌else◌, List, [], ◌∷◌, ◌++◌, map, take, drop, Some, refl, sym, ◌∙◌, ap, subst, arith}
use Rattle.std.specs.Prelude.{slice_get, slice_set, ◌==◌}
use Rattle.std.proofs.lemmas.List.Elements.{filter-append}
use Rattle.std.proofs.lemmas.Bool.Decides.{nat_tests}
use Rattle.jc_model.specs.declared.config.CacheConfig.{CacheConfig}
use Rattle.jc_model.specs.declared.event.End.{End}
use Rattle.jc_model.specs.declared.event.End.TheVariants.{Waiting}
use Rattle.jc_model.specs.declared.event.Entry.{Entry}
use Rattle.jc_model.specs.State.{State}
use Rattle.jc_model.specs.Run.{answered}
use Rattle.jc_model.specs.Runs.{Standing, idle, busy, standing_of, fresh, Status, Lives}
use Rattle.jc_model.specs.Whole.{whole}
use Rattle.jc_model.specs.Solo.{after_call, standing_from}
use Rattle.jc_model.specs.Legal.{is_waiting, played, IsLegalEntry, IsLegalFrom, entries_of, History, Tells, on_open}
use Rattle.jc_model.proofs.Lives.{at_same}
use Rattle.jc_model.proofs.OneCache.{IsBusy, by_end, none_after}
use Rattle.std.proofs.lemmas.List.{same_from_push}
use Rattle.jc_engine.specs.Recording.{HasOpen, IsEntryOf}
use Rattle.jc_engine.proofs.Entries.{written_open}
use Rattle.jc_model.specs.Places.{at_place}

pub id_is_id : (id : ℕ) → (id == id) ≡ true
id_is_id id = grind (arith, nat_tests)

-- the entries of a cache before an entry of it, that entry, and those after it
pub entries_split : (id : ℕ) (es : List Entry) (i : ℕ) (e : Entry) → slice_get es i ≡ Some e → (e.id == id) ≡ true → entries_of id es ≡ entries_of id (take i es) ++ e ∷ entries_of id (drop (suc i) es)
entries_split id [] i e at own = absurd cc
entries_split id (d ∷ ds) zero e at own =
    let same : d ≡ e = cc in
    let here : (d.id == id) ≡ true = ap (λ (x : Entry). x.id == id) same ∙ own in
    rw here (ap (λ x. x ∷ entries_of id ds) same)
entries_split id (d ∷ ds) (suc i) e at own = go (d.id == id) (entries_split id ds i e at own)
  where
    go : (b : Bool) → entries_of id ds ≡ entries_of id (take i ds) ++ e ∷ entries_of id (drop (suc i) ds)
        → (if b then d ∷ entries_of id ds else entries_of id ds) ≡ (if b then d ∷ entries_of id (take i ds) else entries_of id (take i ds)) ++ e ∷ entries_of id (drop (suc i) ds)
    go true ih = ap (λ xs. d ∷ xs) ih
    go false ih = ih

waiting_over : (n : End) → n ≡ Waiting → is_waiting n ≡ false → ⊥
waiting_over n waits over = let is : is_waiting n ≡ true = ap is_waiting waits in cc

-- an open call in the entries of one cache: nothing follows it, and the cache stands where it waits
pub record IsLastOpen (c : CacheConfig) (standing : Standing) (before : List Entry) (e : Entry) (after : List Entry) : Type 0 where
  pub none : after ≡ []
  pub state : State
  pub legal : IsLegalEntry c state e
  pub stands : standing_from c standing (map played (before ++ e ∷ after)) ≡ standing_of (answered (whole c e.at e.call state) e.answers)

pub last_open : (c : CacheConfig) (standing : Standing) (before : List Entry) (e : Entry) (after : List Entry) → IsLegalFrom c standing (before ++ e ∷ after) → e.end ≡ Waiting → IsLastOpen c standing before e after
last_open c (busy w p resumed) [] e after h waits = absurd h
last_open c (idle s) [] e after h waits =
    by_end (answered (whole c e.at e.call s) e.answers) e.end h.0.1
    (λ is left stays. go after left stays (subst (λ (t : Standing). IsLegalFrom c t after) left h.1))
    (λ t over left. absurd (waiting_over e.end waits over))
  where
    go : (after : List Entry) → after_call c s (played e) ≡ standing_of (answered (whole c e.at e.call s) e.answers) → IsBusy (standing_of (answered (whole c e.at e.call s) e.answers))
        → IsLegalFrom c (standing_of (answered (whole c e.at e.call s) e.answers)) after → IsLastOpen c (idle s) [] e after
    go [] left stays l = record { none = refl; state = s; legal = h.0; stands = left }
    go (d ∷ ds) left stays l = absurd (none_after c (standing_of (answered (whole c e.at e.call s) e.answers)) d ds stays l)
last_open c (busy w p resumed) (d ∷ ds) e after h waits = absurd h
last_open c (idle s) (d ∷ ds) e after h waits =
    let l = last_open c (after_call c s (played d)) ds e after h.1 waits in
    record { none = l.none; state = l.state; legal = l.legal; stands = l.stands }

-- The transcript of caches that stand so, where a cache's open call has this entry.
module _ (lives : Lives) (transcript : History) (tells : Tells transcript lives) (id place : ℕ) (open_there : HasOpen transcript.entries id place) where
  own : (open_there.entry.id == id) ≡ true
  own = ap (λ (n : ℕ). n == id) open_there.own ∙ id_is_id id

  abbrev before : List Entry
  before = entries_of id (take place transcript.entries)

  abbrev after : List Entry
  after = entries_of id (drop (suc place) transcript.entries)

  split : entries_of id transcript.entries ≡ before ++ open_there.entry ∷ after
  split = entries_split id transcript.entries place open_there.entry open_there.there own

  -- its cache
  pub open_last : (k : Status) → at_place lives id ≡ Some k → IsLastOpen k.config fresh before open_there.entry after
  open_last k at = last_open k.config fresh before open_there.entry after (subst (λ (es : List Entry). IsLegalFrom k.config fresh es) split (tells.legal.each id k.config (tells.each id k at).0)) open_there.waits

  pub open_stands : (k : Status) (at : at_place lives id ≡ Some k) → k.standing ≡ standing_of (answered (whole k.config open_there.entry.at open_there.entry.call (open_last k at).state) open_there.entry.answers)
  open_stands k at = (tells.each id k at).1 ∙ ap (λ (es : List Entry). standing_from k.config fresh (map played es)) split ∙ (open_last k at).stands

  -- its entry, changed where it stands
  pub changed_there : (k : Status) → at_place lives id ≡ Some k → (f : Entry → Entry) → slice_get (on_open id f transcript.entries) place ≡ Some (f open_there.entry)
  changed_there k at f =
      ap (λ (es : List Entry). slice_get es place) (sym (written_open lives transcript id place k open_there.entry f tells at open_there.there open_there.own open_there.waits))
      ∙ at_same transcript.entries place open_there.entry (f open_there.entry) open_there.there

  -- no other is open there
  pub open_same : (k : Status) → at_place lives id ≡ Some k → (other : ℕ) (e : Entry) → IsEntryOf transcript.entries id other e → e ≡ open_there.entry
  open_same k at other e is =
      let theirs : (e.id == id) ≡ true = ap (λ (n : ℕ). n == id) is.own ∙ id_is_id id in
      let apart : entries_of id transcript.entries ≡ entries_of id (take other transcript.entries) ++ e ∷ entries_of id (drop (suc other) transcript.entries) = entries_split id transcript.entries other e is.there theirs in
      let legal = subst (λ (es : List Entry). IsLegalFrom k.config fresh es) apart (tells.legal.each id k.config (tells.each id k at).0) in
      let none = (last_open k.config fresh (entries_of id (take other transcript.entries)) e (entries_of id (drop (suc other) transcript.entries)) legal is.waits).none in
      let here : before ++ open_there.entry ∷ [] ≡ entries_of id transcript.entries = ap (λ (es : List Entry). before ++ open_there.entry ∷ es) (sym (open_last k at).none) ∙ sym split in
      let there : entries_of id transcript.entries ≡ entries_of id (take other transcript.entries) ++ e ∷ [] = apart ∙ ap (λ (es : List Entry). entries_of id (take other transcript.entries) ++ e ∷ es) none in
      sym (same_from_push before (entries_of id (take other transcript.entries)) open_there.entry e (here ∙ there)).1

  -- its entry, changed where it stands, is the last of its cache
  pub changed_last : (k : Status) → at_place lives id ≡ Some k → (f : Entry → Entry) → ((e : Entry) → (f e).id ≡ e.id) → (draft : Entry) → slice_get (on_open id f transcript.entries) place ≡ Some draft
      → (before : List Entry) × (entries_of id (on_open id f transcript.entries) ≡ before ++ draft ∷ [])
  changed_last k at f keeps draft there =
      let new : List Entry = on_open id f transcript.entries in
      let set : slice_set transcript.entries place (f open_there.entry) ≡ new = written_open lives transcript id place k open_there.entry f tells at open_there.there open_there.own open_there.waits in
      let here : slice_get new place ≡ Some (f open_there.entry) = ap (λ (es : List Entry). slice_get es place) (sym set) ∙ at_same transcript.entries place open_there.entry (f open_there.entry) open_there.there in
      let is : f open_there.entry ≡ draft = cc in
      let own' : (draft.id == id) ≡ true = ap (λ (e : Entry). e.id == id) (sym is) ∙ ap (λ (n : ℕ). n == id) (keeps open_there.entry) ∙ own in
      let rest : drop (suc place) new ≡ drop (suc place) transcript.entries = ap (λ (es : List Entry). drop (suc place) es) (sym set) ∙ drop_set transcript.entries place (f open_there.entry) in
      let none : entries_of id (drop (suc place) new) ≡ [] = ap (entries_of id) rest ∙ (open_last k at).none in (
        entries_of id (take place new),
        entries_split id new place draft there own' ∙ ap (λ (es : List Entry). entries_of id (take place new) ++ draft ∷ es) none,
      )
    where
      drop_set : (xs : List Entry) (i : ℕ) (x : Entry) → drop (suc i) (slice_set xs i x) ≡ drop (suc i) xs
      drop_set [] i x = refl
      drop_set (y ∷ ys) zero x = refl
      drop_set (y ∷ ys) (suc i) x = drop_set ys i x

-- an entry behind all others is the last of its cache
pub added_last : (transcript : List Entry) (e : Entry) → entries_of e.id (transcript ++ e ∷ []) ≡ entries_of e.id transcript ++ e ∷ []
added_last transcript e =
    filter-append (λ d. d.id == e.id) transcript (e ∷ []) ∙ ap (λ es. entries_of e.id transcript ++ es) (rw (id_is_id e.id) refl)

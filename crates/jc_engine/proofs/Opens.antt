-- The entries of open calls, as a history grows.
use Rattle.std.proofs.Common.{◌≡◌, ◌≢◌, ◌⊎◌, ◌+◌, ◌-◌, ℕ, zero, suc, false, List, [], ◌∷◌, ◌++◌, length, Option, Some, None, inl, inr, refl, sym, ap, subst, ◌∙◌, arith, slice_get, slice_set, length-set}
use Rattle.jc_engine.proofs.Names.{cases_eq, length_push, Entry, History, step_of, Stepped, at_same}
use Rattle.jc_engine.specs.declared.turn.EngineStep.{EngineStep}
use Rattle.jc_engine.specs.declared.turn.EngineStep.TheVariants.{Replied, Asked, Told}
use Rattle.jc_engine.specs.Recording.{with_entries}
use Rattle.jc_model.specs.declared.call.Reply.{Reply}
use Rattle.jc_model.specs.declared.event.End.TheVariants.{Waiting}
use Rattle.jc_model.specs.Legal.{end_by}
use Rattle.jc_engine.specs.Journals.{IsKept}
use Rattle.jc_engine.specs.Managed.{is_replied}
use Rattle.jc_engine.specs.declared.journal.open_call.OpenCall.{OpenCall}
use Rattle.jc_engine.specs.Opens.{AreOpen, StandsOpen, place_of}
use Rattle.jc_engine.proofs.Numbered.{Puts, put_here, put_other}
use Rattle.jc_engine.proofs.Entries.{StayElsewhere, added_elsewhere, set_elsewhere, get_last}

-- a call that has no reply goes on
pub goes_on : (advance : EngineStep) → ((reply : Reply) → advance ≡ Replied reply → ⊥) → is_replied advance ≡ false
goes_on (Replied reply) not = absurd (not reply refl)
goes_on (Asked request) not = refl
goes_on (Told notices) not = refl

-- a call that goes on waits
pub waits_on : (advance : EngineStep) → is_replied advance ≡ false → end_by (Stepped (step_of advance)) ≡ Waiting
waits_on (Replied reply) goes = absurd cc
waits_on (Asked request) goes = refl
waits_on (Told notices) goes = refl

pub some_same : {A : Type 0} {x y : A} → Some x ≡ Some y → x ≡ y
some_same h = cc

-- the place of the entry behind all others
pub last_place : (es : List Entry) (t h : History) (e : Entry) → es ≡ t.entries → t ≡ with_entries (h.entries ++ e ∷ []) h → length es - 1 ≡ length h.entries
last_place es t h e same entered =
    let longer : length es ≡ length (h.entries ++ e ∷ []) = ap length (same ∙ ap (λ (t : History). t.entries) entered) in
    let one = length_push h.entries e in
    omega (arith, longer, one)

-- what is kept of a cache is its open call
pub kept_call : (h : History) (f : ℕ → Option OpenCall) (id place : ℕ) (e : Entry) (c : OpenCall) → f id ≡ Some c → StandsOpen h id c → IsKept h (λ i. place_of (f i)) id place e → (c.place ≡ place) × (c.entry ≡ e)
kept_call h f id place e c at stands kept =
    let here : Some c.place ≡ Some place = ap place_of (sym at) ∙ kept.at in
    let same : c.place ≡ place = cc in
    let found : Some c.entry ≡ Some e = sym stands.there ∙ (ap (slice_get h.entries) same ∙ kept.there) in
    let is : c.entry ≡ e = cc in
    (same, is)

module _ (h : History) (n : ℕ) (f : ℕ → Option OpenCall) (kept : AreOpen h n f) where
  -- no call has come, gone or gone on
  pub same_open : (g : ℕ → Option OpenCall) → ((q : ℕ) → g q ≡ f q) → AreOpen h n g
  same_open g same = record { counted = kept.counted; each = λ id c at. kept.each id c (sym (same id) ∙ at) }

  pub lives_open : (h' : History) → h'.entries ≡ h.entries → AreOpen h' n f
  lives_open h' same = record {
    counted = ap length same ∙ kept.counted;
    each = λ id c at. let s = kept.each id c at in record { there = ap (λ (es : List Entry). slice_get es c.place) same ∙ s.there; own = s.own; waits = s.waits };
  }

  -- the call of one cache has changed, or none is open there
  pub put_open : (h' : History) (m id : ℕ) (w : Option OpenCall) (g : ℕ → Option OpenCall) → length h'.entries ≡ m → Puts f id w g → StayElsewhere id h.entries h'.entries → ((c : OpenCall) → w ≡ Some c → StandsOpen h' id c) → AreOpen h' m g
  put_open h' m id w g counted puts stay here = record { counted = counted; each = λ q c at. by q c at (cases_eq q id) }
    where
      by : (q : ℕ) (c : OpenCall) → g q ≡ Some c → (q ≡ id) ⊎ (q ≢ id) → StandsOpen h' q c
      by q c at (inl same) = subst (λ (i : ℕ). StandsOpen h' i c) (sym same) (here c (sym (put_here f g id w puts) ∙ ap g (sym same) ∙ at))
      by q c at (inr differ) =
          let s = kept.each q c (sym (put_other f g id w puts q differ) ∙ at) in
          record { there = stay.stays c.place c.entry (λ is. differ (sym s.own ∙ is)) s.there; own = s.own; waits = s.waits }

  pub gone_open : (id : ℕ) (g : ℕ → Option OpenCall) → Puts f id None g → AreOpen h n g
  gone_open id g puts = put_open h n id None g kept.counted puts (record { stays = λ place e differ at. at }) (λ c is. absurd cc)

  -- an open call is written as it was
  pub unchanged_open : (id : ℕ) (c : OpenCall) (e : Entry) → f id ≡ Some c → e ≡ c.entry → (g : ℕ → Option OpenCall) → Puts f id (Some (record { place = c.place; entry = e })) g → AreOpen h n g
  unchanged_open id c e at same g puts =
      let call : OpenCall = record { place = c.place; entry = e } in
      let is : c ≡ call = ap (λ (x : Entry). (let open_call : OpenCall = record { place = c.place; entry = x } in open_call)) (sym same) in
      put_open h n id (Some call) g kept.counted puts (record { stays = λ place d differ there. there })
      (λ d found. let to : call ≡ d = cc in subst (StandsOpen h id) (is ∙ to) (kept.each id c at))

  module _ (h' : History) (e : Entry) (entered : h' ≡ with_entries (h.entries ++ e ∷ []) h) where
    counts : length h'.entries ≡ n + 1
    counts = let one = length_push h.entries e in ap (λ (t : History). length t.entries) entered ∙ omega (arith, one, kept.counted)

    stay : (id : ℕ) → StayElsewhere id h.entries h'.entries
    stay id = rw entered (added_elsewhere id h.entries e)

    last : slice_get h'.entries n ≡ Some e
    last = rw (← kept.counted, entered) (get_last h.entries e)

    -- a call has begun and ended
    pub added_open : AreOpen h' (n + 1) f
    added_open = record {
      counted = counts;
      each = λ id c at. let s = kept.each id c at in record { there = later c s.there; own = s.own; waits = s.waits };
    }
      where
        more : {A : Type 0} (xs ys : List A) (i : ℕ) (x : A) → slice_get xs i ≡ Some x → slice_get (xs ++ ys) i ≡ Some x
        more [] ys i x at = absurd cc
        more (a ∷ xs) ys zero x at = at
        more (a ∷ xs) ys (suc i) x at = more xs ys i x at

        later : (c : OpenCall) → slice_get h.entries c.place ≡ Some c.entry → slice_get h'.entries c.place ≡ Some c.entry
        later c there = rw entered (more h.entries (e ∷ []) c.place c.entry there)

    -- a call has begun, and waits
    pub begun_open : (id : ℕ) (g : ℕ → Option OpenCall) → Puts f id (Some (record { place = n; entry = e })) g → e.id ≡ id → e.end ≡ Waiting → AreOpen h' (n + 1) g
    begun_open id g puts own waits =
        let call : OpenCall = record { place = n; entry = e } in
        put_open h' (n + 1) id (Some call) g counts puts (stay id)
        (λ c is. let same : call ≡ c = cc in subst (StandsOpen h' id) same (record { there = last; own = own; waits = waits }))

  module _ (h' : History) (id : ℕ) (c : OpenCall) (e : Entry) (at : f id ≡ Some c) (set : h' ≡ with_entries (slice_set h.entries c.place e) h) (own : e.id ≡ id) where
    as_many : length h'.entries ≡ n
    as_many = rw (set, length-set) kept.counted

    apart : StayElsewhere id h.entries h'.entries
    apart = rw set (set_elsewhere id h.entries c.place c.entry e (kept.each id c at).there (kept.each id c at).own)

    -- the open call of a cache has gone on
    pub stays_open : (g : ℕ → Option OpenCall) → Puts f id (Some (record { place = c.place; entry = e })) g → e.end ≡ Waiting → AreOpen h' n g
    stays_open g puts waits =
        let call : OpenCall = record { place = c.place; entry = e } in
        put_open h' n id (Some call) g as_many puts apart
        (λ d is. let same : call ≡ d = cc in subst (StandsOpen h' id) same (record { there = rw set (at_same h.entries c.place c.entry e (kept.each id c at).there); own = own; waits = waits }))

    -- it has ended
    pub goes_open : (g : ℕ → Option OpenCall) → Puts f id None g → AreOpen h' n g
    goes_open g puts = put_open h' n id None g as_many puts apart (λ d is. absurd cc)

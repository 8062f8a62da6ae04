-- A line that creates a cache or destroys one.
use Rattle.std.proofs.Common.{◌≡◌, ◌≢◌, ℕ, zero, suc, ◌≤◌, ◌==◌, Bool, true, false, if◌then◌else◌, List, [], ◌∷◌, ◌++◌, length, map, Option, Some, None, Result, Ok, Err, refl, sym, ap, ◌∙◌, subst, append-nil, arith}
use Rattle.std.specs.Option.{option_map}
use Rattle.std.specs.Result.{is_err}
use Rattle.std.proofs.lemmas.Bool.{false≢true}
use Rattle.std.proofs.lemmas.List.{map-append}
use Rattle.std.proofs.lemmas.Option.{none-some, same_Some}
use Rattle.jc_model.specs.declared.call.Answer.{Answer}
use Rattle.jc_model.specs.declared.call.Notice.{Notice}
use Rattle.jc_model.specs.declared.call.ProcessorFault.{ProcessorFault}
use Rattle.jc_model.specs.declared.call.Request.{Request}
use Rattle.jc_model.specs.declared.call.Verdict.{Verdict}
use Rattle.jc_model.specs.declared.config.CacheConfig.{CacheConfig}
use Rattle.jc_model.specs.declared.event.Cause.{Cause}
use Rattle.jc_model.specs.declared.event.CreateRefusal.{CreateRefusal}
use Rattle.jc_model.specs.declared.event.Entry.{Entry}
use Rattle.jc_model.specs.declared.event.Event.TheVariants.{Create, Destroy}
use Rattle.jc_model.specs.declared.event.Life.{Life}
use Rattle.jc_model.specs.declared.event.Outcome.{Outcome}
use Rattle.jc_model.specs.declared.event.Outcome.TheVariants.{CreateRefused, Destroyed}
use Rattle.jc_model.specs.State.{first_state}
use Rattle.jc_model.specs.Runs.{Status, fresh, opened, Lives, create_refusal, answer_to_create, answer_to_destroy, destroyed_by, answer_to, for_memory, creates, destroys, lives_by}
use Rattle.jc_model.specs.Solo.{standing_from}
use Rattle.jc_model.specs.Legal.{History, played, entries_of, config_of, recorded}
use Rattle.jc_model.proofs.Bare.{create_refusal-bare, destroyed-bare}
use Rattle.jc_model.proofs.Histories.{config_before, config_last, no_entries}
use Rattle.jc_model.proofs.Lives.{same_length, length_one_more, live_same, live_other, live_last, live_before}
use Rattle.jc_engine.specs.Recording.{Recording}
use Rattle.jc_engine.specs.Results.{of_destroy}
use Rattle.jc_engine.proofs.Places.{length_map}
use Rattle.jc_hooks.specs.declared.cache_hooks.CacheHooks.{CacheHooks}
use Rattle.jc_hooks.specs.declared.loader.Loaded.{Loaded}
use Rattle.jc_script.specs.declared.line.Line.{Line}
use Rattle.jc_script.specs.declared.line.Line.TheVariants as line
use Rattle.jc_script.specs.Managing.{life_unless}
use Rattle.jc_script.specs.Named.{IsLive}
use Rattle.jc_runner.specs.Alone.{calls_on, line_of_entry, AllReplied, exchanges}
use Rattle.jc_runner.specs.Answering.{HeardAt}
use Rattle.jc_runner.specs.Halfway.{lives_now, as_read, MovesRecording, NoneOpen, IsStandingIdle, IsAtRest, LifeGoesOn, IsStillToCome}
use Rattle.jc_runner.proofs.Hearing.{nothing_heard}
use Rattle.jc_runner.proofs.Reached.{still_told}
use Rattle.jc_runner.proofs.Steps.{is_same, is_other, Follows, goes_past}
use Rattle.jc_model.specs.Places.{at_place}

-- Why a creating was refused.

-- what is no want of memory is the manager's refusal
pub record IsRefused (refusal : Option CreateRefusal) (next : ℕ) (why : CreateRefusal) : Type 0 where
  pub is : refusal ≡ Some why
  pub sure : CreateRefused why ≡ answer_to_create refusal next false

-- A creating.

create_sure : (refusal : Option CreateRefusal) (next : ℕ) → answer_to_create refusal next false ≡ answer_to_create refusal next (for_memory (answer_to_create refusal next false))
create_sure None next = refl
create_sure (Some why) next = refl

abbrev lives_unless : Option CreateRefusal → Lives → CacheConfig → Lives
lives_unless None lives c = lives ++ Some (opened c) ∷ []
lives_unless (Some why) lives c = lives

lives_so : (refusal : Option CreateRefusal) (lives : Lives) (next : ℕ) (c : CacheConfig) → lives_by lives (creates c) (answer_to_create refusal next false) ≡ lives_unless refusal lives c
lives_so None lives next c = refl
lives_so (Some why) lives next c = refl

read_so : (refusal : Option CreateRefusal) (lives : Lives) (c : CacheConfig) → as_read (lives_unless refusal lives c) ≡ lives_unless refusal (as_read lives) c
read_so None lives c = map-append (option_map (λ k. opened k.config)) lives (Some (opened c) ∷ [])
read_so (Some why) lives c = refl

begun_so : (refusal : Option CreateRefusal) (session next : ℕ) (c : CacheConfig) (h : History) → (recorded session (Create c) (answer_to_create refusal next false) h).lives ≡ h.lives ++ life_unless refusal (record { id = next; config = c })
begun_so None session next c h = refl
begun_so (Some why) session next c h = sym (append-nil h.lives)

entries_so : (refusal : Option CreateRefusal) (session next : ℕ) (c : CacheConfig) (h : History) → (recorded session (Create c) (answer_to_create refusal next false) h).entries ≡ h.entries
entries_so None session next c h = refl
entries_so (Some why) session next c h = refl

counted_so : (refusal : Option CreateRefusal) (lives : Lives) (c : CacheConfig) (begun : List Life) (life : Life) → length begun ≡ length lives → length (begun ++ life_unless refusal life) ≡ length (lives_unless refusal lives c)
counted_so None lives c begun life e = length_one_more begun life ∙ ap suc e ∙ sym (length_one_more lives (Some (opened c)))
counted_so (Some why) lives c begun life e = ap length (append-nil begun) ∙ e

grown_so : (refusal : Option CreateRefusal) (lives : Lives) (c : CacheConfig) → length lives ≤ length (lives_unless refusal lives c)
grown_so None lives c = let more = length_one_more lives (Some (opened c)) in omega (arith, more)
grown_so (Some why) lives c = omega arith

rests_so : (refusal : Option CreateRefusal) (lives : Lives) (c : CacheConfig) → ((id : ℕ) (k : Status) → at_place lives id ≡ Some k → IsStandingIdle k.standing) → (id : ℕ) (k : Status) → at_place (lives_unless refusal lives c) id ≡ Some k → IsStandingIdle k.standing
rests_so (Some why) lives c resting id k at = resting id k at
rests_so None lives c resting id k at = go (length lives == id) refl
  where
    go : (b : Bool) → (length lives == id) ≡ b → IsStandingIdle k.standing
    go true is =
        let there : at_place (lives ++ Some (opened c) ∷ []) (length lives) ≡ Some k = subst (λ (i : ℕ). at_place (lives ++ Some (opened c) ∷ []) i ≡ Some k) (sym (is_same (length lives) id is)) at in
        let same : opened c ≡ k = same_Some (opened c) k (sym (live_last lives (Some (opened c))) ∙ there) in
        record { state = first_state; is = ap (λ (x : Status). x.standing) (sym same) }
    go false is = resting id k (sym (live_before lives (Some (opened c)) id (is_other (length lives) id is)) ∙ at)

-- which life has a configuration: an earlier one, or the one that has just begun
pub data Found (lives : List Life) (next : ℕ) (new : CacheConfig) (id : ℕ) (c : CacheConfig) : Type 0 where
  earlier : config_of id lives ≡ Some c → Found lives next new id c
  just_now : next ≡ id → config_of id lives ≡ None → Found lives next new id c

found_so : (refusal : Option CreateRefusal) (lives : List Life) (next : ℕ) (new : CacheConfig) (id : ℕ) (c : CacheConfig) → config_of id (lives ++ life_unless refusal (record { id = next; config = new })) ≡ Some c → Found lives next new id c
found_so (Some why) lives next new id c is = earlier (ap (config_of id) (sym (append-nil lives)) ∙ is)
found_so None lives next new id c is = go (config_of id lives) refl
  where
    life : Life
    life = record { id = next; config = new }

    at_last : (b : Bool) → (next == id) ≡ b → config_of id lives ≡ None → (if b then Some new else None) ≡ Some c → Found lives next new id c
    at_last true same none e = just_now (is_same next id same) none
    at_last false same none e = absurd (none-some c e)

    go : (found : Option CacheConfig) → config_of id lives ≡ found → Found lives next new id c
    go (Some d) there = earlier (there ∙ sym (config_before lives life id d there) ∙ is)
    go None there = at_last (next == id) refl there (sym (config_last lives life id there) ∙ is)

module _ (old new : Recording) (session : ℕ) (c : CacheConfig) (at_rest : IsAtRest old) (m : MovesRecording old new session (Create c) (answer_to (lives_now old) (Create c) false)) where
  abbrev refusal : Option CreateRefusal
  refusal = create_refusal (lives_now old) c

  abbrev next : ℕ
  next = length (lives_now old)

  abbrev life : Life
  life = record { id = next; config = c }

  lives_are : lives_now new ≡ lives_unless refusal (lives_now old) c
  lives_are = m.lives ∙ lives_so refusal (lives_now old) next c

  begun_are : new.transcript.lives ≡ old.transcript.lives ++ life_unless refusal life
  begun_are = ap (λ (h : History). h.lives) m.transcript ∙ begun_so refusal session next c old.transcript

  entries_are : new.transcript.entries ≡ old.transcript.entries
  entries_are = ap (λ (h : History). h.entries) m.transcript ∙ entries_so refusal session next c old.transcript

  pub create_follows : Follows old new (line.Create session c)
  create_follows = record {
    read = ap as_read lives_are ∙ read_so refusal (lives_now old) c
        ∙ ap (λ (why : Option CreateRefusal). lives_unless why (as_read (lives_now old)) c) (sym (create_refusal-bare (lives_now old) c))
        ∙ sym (lives_so (create_refusal (as_read (lives_now old)) c) (as_read (lives_now old)) (length (as_read (lives_now old))) c);
    begun = begun_are ∙ ap (λ (why : Option CreateRefusal). old.transcript.lives ++ life_unless why life) (sym (create_refusal-bare (lives_now old) c))
        ∙ ap (λ (n : ℕ). old.transcript.lives ++ life_unless (create_refusal (as_read (lives_now old)) c) (record { id = n; config = c })) (sym (length_map (option_map (λ k. opened k.config)) (lives_now old)));
    rest = record {
      told = still_told old new session (Create c) (answer_to (lives_now old) (Create c) false) at_rest.told (create_sure refusal next) m;
      counted = ap length begun_are ∙ counted_so refusal (lives_now old) c old.transcript.lives life at_rest.counted ∙ ap length (sym lives_are);
      closed = subst NoneOpen (sym entries_are) at_rest.closed;
      resting = λ id k at. rests_so refusal (lives_now old) c at_rest.resting id k (ap (λ (ks : Lives). at_place ks id) (sym lives_are) ∙ at);
    };
  }

  module _ {L W P K : Type 0} (load_of : L → List ℕ → Loaded) (may : W → List (Request × Answer) → Type 0) (verdict_of : P → Option (List ℕ) → List ℕ → Result Verdict ProcessorFault) (state_after : K → List Notice → List ℕ)
      (all rest : List Line) where
    module _ (id : ℕ) (handed h h' : Option (CacheHooks L W P K)) (same : h' ≡ h) (comes : next ≤ id → IsStillToCome id all (line.Create session c ∷ rest) handed h) where
      pub create_comes : length (lives_now new) ≤ id → IsStillToCome id all rest handed h'
      create_comes beyond =
          let grown : next ≤ length (lives_now new) = subst (λ (ks : Lives). next ≤ length ks) (sym lives_are) (grown_so refusal (lives_now old) c) in
          let before : IsStillToCome id all (line.Create session c ∷ rest) handed h = comes (omega (arith, grown, beyond)) in
          record { calls = before.calls; same = same ∙ before.same }

      pub create_goes : (d : CacheConfig) → (config_of id old.transcript.lives ≡ Some d → LifeGoesOn load_of may verdict_of state_after d id all (line.Create session c ∷ rest) handed h old.transcript.entries) → config_of id new.transcript.lives ≡ Some d
          → LifeGoesOn load_of may verdict_of state_after d id all rest handed h' new.transcript.entries
      create_goes d goes config = go (found_so refusal old.transcript.lives next c id d (ap (config_of id) (sym begun_are) ∙ config))
        where
          go : Found old.transcript.lives next c id d → LifeGoesOn load_of may verdict_of state_after d id all rest handed h' new.transcript.entries
          go (earlier is) = goes_past load_of may verdict_of state_after d id all (line.Create session c ∷ rest) rest handed h h' old.transcript.entries new.transcript.entries refl (ap (entries_of id) entries_are) same (goes is)
          go (just_now is none) =
              let before : IsStillToCome id all (line.Create session c ∷ rest) handed h = comes (omega (arith, is)) in
              let nothing : entries_of id new.transcript.entries ≡ [] = ap (entries_of id) entries_are ∙ no_entries old.transcript.lives id old.transcript.entries none at_rest.told.legal.known in
              record {
                left = record { state = first_state; is = ap (λ (es : List Entry). standing_from d fresh (map played es)) nothing };
                calls = ap (λ (es : List Entry). map line_of_entry es ++ calls_on id rest) nothing ∙ before.calls;
                replied = subst AllReplied (sym nothing) tt;
                heard = subst (λ (es : List Entry). HeardAt load_of may verdict_of state_after handed h' (exchanges d fresh es)) (sym nothing)
                    (subst (λ (o : Option (CacheHooks L W P K)). HeardAt load_of may verdict_of state_after handed o []) (sym (same ∙ before.same)) (nothing_heard load_of may verdict_of state_after handed));
              }

-- A destroying.

abbrev pub read_one : Status → Status
read_one k = opened k.config

pub live_read : (lives : Lives) (id : ℕ) → at_place (as_read lives) id ≡ option_map read_one (at_place lives id)
live_read [] id = refl
live_read (None ∷ lives) zero = refl
live_read (Some k ∷ lives) zero = refl
live_read (l ∷ lives) (suc id) = live_read lives id

-- a cache that the reader takes for live is live
pub record LivesOn (lives : Lives) (id : ℕ) : Type 0 where
  pub status : Status
  pub there : at_place lives id ≡ Some status

pub lives_on : (lives : Lives) (id : ℕ) → IsLive (as_read lives) id → LivesOn lives id
lives_on lives id live = go (at_place lives id) refl
  where
    go : (found : Option Status) → at_place lives id ≡ found → LivesOn lives id
    go (Some k) is = record { status = k; there = is }
    go None is = absurd (none-some live.status (sym (live_read lives id ∙ ap (option_map read_one) is) ∙ live.there))

pub destroys_so : (lives : Lives) (id : ℕ) (k : Status) → at_place lives id ≡ Some k → IsStandingIdle k.standing → answer_to_destroy (at_place lives id) ≡ Destroyed
destroys_so lives id k at idle = ap answer_to_destroy at ∙ ap destroyed_by idle.is

pub destroyed_well : (result : Result (Unit {0}) Cause) → of_destroy result ≡ Destroyed → is_err result ≡ true → ⊥
destroyed_well (Ok done) e failed = false≢true failed
destroyed_well (Err cause) e failed = absurd cc

module _ (old new : Recording) (session id : ℕ) (at_rest : IsAtRest old) (live : IsLive (as_read (lives_now old)) id) (m : MovesRecording old new session (Destroy id) Destroyed) where
  lived : LivesOn (lives_now old) id
  lived = lives_on (lives_now old) id live

  as_many : length (lives_now new) ≡ length (lives_now old)
  as_many = ap length m.lives ∙ same_length {A = Option Status} (lives_now old) id None

  rests_after : (i : ℕ) (k : Status) (b : Bool) → (id == i) ≡ b → at_place (lives_now new) i ≡ Some k → IsStandingIdle k.standing
  rests_after i k true is at =
      let here : at_place (lives_now new) id ≡ Some k = subst (λ (j : ℕ). at_place (lives_now new) j ≡ Some k) (sym (is_same id i is)) at in
      absurd (none-some k (sym (ap (λ (ks : Lives). at_place ks id) m.lives ∙ live_same (lives_now old) id lived.status None lived.there) ∙ here))
  rests_after i k false is at = at_rest.resting i k (sym (ap (λ (ks : Lives). at_place ks i) m.lives ∙ live_other (lives_now old) id i None (is_other id i is)) ∙ at)

  read_destroys : answer_to_destroy (at_place (as_read (lives_now old)) id) ≡ Destroyed
  read_destroys = ap answer_to_destroy (live_read (lives_now old) id ∙ ap (option_map read_one) lived.there)

  pub destroy_follows : Follows old new (line.Destroy session id)
  destroy_follows = record {
    read = ap as_read m.lives ∙ destroyed-bare (lives_now old) id Destroyed ∙ ap (λ (o : Outcome). lives_by (as_read (lives_now old)) (destroys id) o) (sym read_destroys);
    begun = ap (λ (h : History). h.lives) m.transcript ∙ sym (append-nil old.transcript.lives);
    rest = record {
      told = still_told old new session (Destroy id) Destroyed at_rest.told m.answers m;
      counted = ap (λ (h : History). length h.lives) m.transcript ∙ at_rest.counted ∙ sym as_many;
      closed = subst NoneOpen (sym (ap (λ (h : History). h.entries) m.transcript)) at_rest.closed;
      resting = λ i k at. rests_after i k (id == i) refl at;
    };
  }

  module _ {L W P K : Type 0} (load_of : L → List ℕ → Loaded) (may : W → List (Request × Answer) → Type 0) (verdict_of : P → Option (List ℕ) → List ℕ → Result Verdict ProcessorFault) (state_after : K → List Notice → List ℕ)
      (all rest : List Line) (i : ℕ) (handed h h' : Option (CacheHooks L W P K)) (same : h' ≡ h) where
    pub destroy_comes : (length (lives_now old) ≤ i → IsStillToCome i all (line.Destroy session id ∷ rest) handed h) → length (lives_now new) ≤ i → IsStillToCome i all rest handed h'
    destroy_comes comes beyond =
        let before : IsStillToCome i all (line.Destroy session id ∷ rest) handed h = comes (omega (arith, as_many, beyond)) in
        record { calls = before.calls; same = same ∙ before.same }

    pub destroy_goes : (d : CacheConfig) → (config_of i old.transcript.lives ≡ Some d → LifeGoesOn load_of may verdict_of state_after d i all (line.Destroy session id ∷ rest) handed h old.transcript.entries) → config_of i new.transcript.lives ≡ Some d
        → LifeGoesOn load_of may verdict_of state_after d i all rest handed h' new.transcript.entries
    destroy_goes d goes config =
        goes_past load_of may verdict_of state_after d i all (line.Destroy session id ∷ rest) rest handed h h' old.transcript.entries new.transcript.entries refl (ap (λ (x : History). entries_of i x.entries) m.transcript) same
        (goes (ap (λ (x : History). config_of i x.lives) (sym m.transcript) ∙ config))

-- What a session more, or a call more, leaves of the dealing.
use Rattle.std.proofs.Common.{◌≡◌, ◌≢◌, ℕ, zero, suc, ◌+◌, ◌<◌, replicate, Bool, true, false, ◌%◌, ◌/◌, List, [], ◌∷◌, ◌++◌, length, length-set, map, Some, refl, sym, ◌∙◌, ap, subst, arith, append_assoc, append-nil}
use Rattle.std.specs.Prelude.{slice_get, slice_set, ◌==◌}
use Rattle.std.proofs.lemmas.List.Elements.{All-nil, All-push}
use Rattle.std.proofs.lemmas.Bool.Decides.{nat_tests}
use Rattle.jc_model.proofs.Lives.{at_same, at_other}
use Rattle.jc_script.specs.declared.line.LineCall.{LineCall}
use Rattle.jc_locked.specs.Sessions.{Sitting, log_of}
use Rattle.jc_locked.specs.Stated.{Stated}
use Rattle.jc_threads.specs.Dealing.{Share, idle_share, AreSeated, HasSeat, IsWorkerIdle, AreWorkersIdle, IsUnderWay, AreUnderWay, HasRested, HaveRested, dealt_to}
use Rattle.jc_threads.proofs.Lists.{kept_more, left_out, at_end, get_last, get_still}
use Rattle.jc_threads.proofs.Making.{at_work_first, at_work_same}

-- a session more at a worker
seated_more : (workers worker place : ℕ) (sessions : List Sitting) (o : Sitting) → AreSeated workers worker sessions → length sessions ≡ place → o.number % workers ≡ worker → o.number / workers ≡ place → AreSeated workers worker (sessions ++ o ∷ [])
seated_more workers worker place sessions o seated next own here k x there = at_end (λ (j : ℕ) (y : Sitting). (y.number % workers ≡ worker) × (y.number / workers ≡ j)) sessions o seated (own, here ∙ sym next) k x there

-- of each worker, by how many there are and which it is
abbrev Each : (ℕ → ℕ → Share → Type 0) → List Share → Type 0
Each P crew = (worker : ℕ) (share : Share) → slice_get crew worker ≡ Some share → P (length crew) worker share

-- One worker's share changes.
module _ (P Q : ℕ → ℕ → Share → Type 0) (crew : List Share) (worker : ℕ) (share share' : Share) (at : slice_get crew worker ≡ Some share) (own : P (length crew) worker share → Q (length crew) worker share')
    (others : (other : ℕ) (found : Share) → worker ≢ other → P (length crew) other found → Q (length crew) other found) where
  changed : Each P crew → Each Q (slice_set crew worker share')
  changed each k x there = subst (λ (n : ℕ). Q n k x) (sym (length-set crew worker share')) (go (worker == k) refl)
    where
      go : (b : Bool) → (worker == k) ≡ b → Q (length crew) k x
      go true is =
          let here : worker ≡ k = grind (arith, nat_tests, is) in
          let this : Some share' ≡ Some x = sym (at_same crew worker share share' at) ∙ (ap (slice_get (slice_set crew worker share')) here ∙ there) in
          let x_is : share' ≡ x = cc in
          subst (λ (j : ℕ). Q (length crew) j x) here (subst (Q (length crew) worker) x_is (own (each worker share at)))
      go false is =
          let elsewhere : worker ≢ k = grind (arith, nat_tests, is) in
          let same : slice_get crew k ≡ Some x = sym (at_other crew worker k share' elsewhere) ∙ there in
          others k x elsewhere (each k x same)

-- a session more
pub seat_idle : (crew : List Share) (share : Share) (o : Sitting) (n : ℕ) → n ≡ o.number → o.calls ≡ [] → slice_get crew (n % length crew) ≡ Some share → length share.sessions ≡ n / length crew
    → AreWorkersIdle crew → AreWorkersIdle (slice_set crew (n % length crew) (record share { sessions = share.sessions ++ o ∷ [] }))
seat_idle crew share o n is none at next =
    changed IsWorkerIdle IsWorkerIdle crew (n % length crew) share (record share { sessions = share.sessions ++ o ∷ [] }) at
    (λ had. record {
      seated = seated_more (length crew) (n % length crew) (n / length crew) share.sessions o had.seated next (ap (λ (m : ℕ). m % length crew) (sym is)) (ap (λ (m : ℕ). m / length crew) (sym is));
      fresh = All-push (λ (p : Sitting). p.calls ≡ []) share.sessions o had.fresh none;
      lines = had.lines;
    })
    (λ other found differ had. had)

-- it is where one looks for it
pub seat_own : (crew : List Share) (share : Share) (o : Sitting) (n : ℕ) → n ≡ o.number → slice_get crew (n % length crew) ≡ Some share → length share.sessions ≡ n / length crew
    → HasSeat (length crew) n (slice_set crew (n % length crew) (record share { sessions = share.sessions ++ o ∷ [] }))
seat_own crew share o n is at next = record {
  share = record share { sessions = share.sessions ++ o ∷ [] };
  at = at_same crew (n % length crew) share (record share { sessions = share.sessions ++ o ∷ [] }) at;
  session = o;
  there = subst (λ (k : ℕ). slice_get (share.sessions ++ o ∷ []) k ≡ Some o) next (get_last share.sessions o);
  own = sym is;
}

-- and the others are where they were
pub seat_others : (workers : ℕ) (crew : List Share) (worker : ℕ) (share : Share) (o : Sitting) → slice_get crew worker ≡ Some share
    → (number : ℕ) → HasSeat workers number crew → HasSeat workers number (slice_set crew worker (record share { sessions = share.sessions ++ o ∷ [] }))
seat_others workers crew worker share o at number had = go (worker == (number % workers)) refl
  where
    more : Share
    more = record share { sessions = share.sessions ++ o ∷ [] }

    go : (b : Bool) → (worker == (number % workers)) ≡ b → HasSeat workers number (slice_set crew worker more)
    go true is =
        let here : worker ≡ number % workers = grind (arith, nat_tests, is) in
        let found : Some share ≡ Some had.share = sym at ∙ (ap (slice_get crew) here ∙ had.at) in
        let share_is : share ≡ had.share = cc in
        record {
          share = more;
          at = subst (λ (k : ℕ). slice_get (slice_set crew worker more) k ≡ Some more) here (at_same crew worker share more at);
          session = had.session;
          there = get_still share.sessions o (number / workers) had.session (subst (λ (s : Share). slice_get s.sessions (number / workers) ≡ Some had.session) (sym share_is) had.there);
          own = had.own;
        }
    go false is =
        let elsewhere : worker ≢ number % workers = grind (arith, nat_tests, is) in
        record { share = had.share; at = at_other crew worker (number % workers) more elsewhere ∙ had.at; session = had.session; there = had.there; own = had.own }

-- with the next number it makes one more of those from 0 upward
pub seats_more : (workers count number found : ℕ) (crew crew' : List Share) → count ≡ workers → found ≡ number → HasSeat count found crew' → ((m : ℕ) → HasSeat count m crew → HasSeat count m crew')
    → ((m : ℕ) → m < number → HasSeat workers m crew) → (m : ℕ) → m < number + 1 → HasSeat workers m crew'
seats_more workers count number found crew crew' same is own others before m below = subst (λ (w : ℕ). HasSeat w m crew') same (go (m == number) refl)
  where
    go : (b : Bool) → (m == number) ≡ b → HasSeat count m crew'
    go true at = let last : found ≡ m = grind (arith, nat_tests, at, is) in subst (λ (k : ℕ). HasSeat count k crew') last own
    go false at = others m (subst (λ (w : ℕ). HasSeat w m crew) (sym same) (before m (grind (arith, nat_tests, at, below))))

-- a call more
pub hand_more : (stated : List Stated) (all : List LineCall) (l : LineCall) (crew : List Share) (share : Share) → slice_get crew (l.session % length crew) ≡ Some share
    → AreUnderWay stated all crew → AreUnderWay stated (all ++ l ∷ []) (slice_set crew (l.session % length crew) (record share { lines = share.lines ++ l ∷ [] }))
hand_more stated all l crew share at =
    changed (λ n worker s. IsUnderWay stated n worker all s) (λ n worker s. IsUnderWay stated n worker (all ++ l ∷ []) s) crew (l.session % length crew) share (record share { lines = share.lines ++ l ∷ [] }) at
    (λ had. record {
      done = had.done;
      work = had.work;
      held =
          sym (append_assoc had.done share.lines (l ∷ [])) ∙ (ap (λ (ls : List LineCall). ls ++ l ∷ []) had.held
          ∙ sym (kept_more (λ (x : LineCall). (x.session % length crew) == (l.session % length crew)) all l (grind (arith, nat_tests))));
    })
    (λ other found differ had. record {
      done = had.done;
      work = had.work;
      held = had.held ∙ sym (left_out (λ (x : LineCall). (x.session % length crew) == other) all l (grind (arith, nat_tests, differ)));
    })

-- sessions that have seen more, and made no call
pub rested_still : (stated : List Stated) (crew : List Share) (worker : ℕ) (share share' : Share) → slice_get crew worker ≡ Some share → share'.lines ≡ share.lines → map log_of share'.sessions ≡ map log_of share.sessions
    → (all : List LineCall) → HaveRested stated all crew → HaveRested stated all (slice_set crew worker share')
rested_still stated crew worker share share' at lines logs all =
    changed (λ n w s. HasRested stated n w all s) (λ n w s. HasRested stated n w all s) crew worker share share' at
    (λ had. record { work = at_work_same stated (length crew) worker (dealt_to (length crew) worker all) share.sessions share'.sessions logs had.work; lines = lines ∙ had.lines })
    (λ other found differ had. had)

-- Workers that have nothing.

all_idle : (n k : ℕ) (share : Share) → slice_get (replicate n idle_share) k ≡ Some share → idle_share ≡ share
all_idle zero k share at = absurd cc
all_idle (suc n) zero share at = cc
all_idle (suc n) (suc k) share at = all_idle n k share at

pub idle_first : (n : ℕ) → AreWorkersIdle (replicate n idle_share)
idle_first n k share at =
    subst (IsWorkerIdle (length (replicate n idle_share)) k) (all_idle n k share at)
    (record { seated = λ place o there. absurd cc; fresh = All-nil (λ (o : Sitting). o.calls ≡ []); lines = refl })

-- they are ready for a first round
pub under_way_first : (stated : List Stated) (crew : List Share) → AreWorkersIdle crew → AreUnderWay stated [] crew
under_way_first stated crew are worker share at =
    let had : IsWorkerIdle (length crew) worker share = are worker share at in
    record { done = []; work = at_work_first stated (length crew) worker share.sessions had.seated had.fresh; held = had.lines }

-- and those that have rested for the next
pub under_way_again : (stated : List Stated) (all : List LineCall) (crew : List Share) → HaveRested stated all crew → AreUnderWay stated all crew
under_way_again stated all crew are worker share at =
    let had : HasRested stated (length crew) worker all share = are worker share at in
    let own : List LineCall = dealt_to (length crew) worker all in
    record { done = own; work = had.work; held = ap (λ (ls : List LineCall). own ++ ls) had.lines ∙ append-nil own }

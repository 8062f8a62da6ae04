-- What all workers have made together, as a transcript tells it that their sessions account for.
use Rattle.std.proofs.Common.{◌≡◌, ◌⊎◌, inl, inr, ℕ, zero, suc, Bool, true, false, cond, ◌%◌, ◌<◌, List, [], ◌∷◌, ◌++◌, length, map, Some, Result, Ok, IfOk, refl, sym, ◌∙◌, ap, subst, arith, append-nil}
use Rattle.std.specs.Prelude.{slice_get, ◌==◌, if◌then◌else◌}
use Rattle.std.specs.List.{All, flat_map}
use Rattle.std.proofs.lemmas.List.Elements.{All-nil, All-head, All-tail, All-weaker}
use Rattle.std.proofs.lemmas.Bool.Decides.{nat_tests}
use Rattle.std.proofs.lemmas.List.{length-map}
use Rattle.std.proofs.lemmas.Nat.{mod_below}
use Rattle.std.proofs.lemmas.Option.{slice_get_within}
use Rattle.jc_model.specs.declared.event.Entry.{Entry}
use Rattle.jc_script.specs.declared.line.LineCall.{LineCall}
use Rattle.jc_script.specs.Calls.{line_of_entry}
use Rattle.jc_locked.specs.Accounts.{own_of, Accounts}
use Rattle.jc_locked.specs.Sessions.{Sitting, log_of}
use Rattle.jc_locked.specs.Stated.{Stated}
use Rattle.jc_threads.specs.declared.fault.WorkFault.{WorkFault}
use Rattle.jc_threads.specs.Dealing.{Share, IsAtWork, AreAtRest, AreUnderWay, HasRested, HaveRested, HasWorked, HaveWorked, dealt_to}
use Rattle.jc_threads.specs.Lines.{lines_by, IsAnswered, HasMade, AreCallsMade, HasSessionNumbered}
use Rattle.jc_threads.proofs.Lists.{all_at, all_from, all_by_class, all_flat, some_at, twice_kept, map_at}

-- Sessions that have made all lines.

among_or_none : (number : ℕ) (logs : List Sitting) (lines : List LineCall) → All (λ l. HasSessionNumbered l.session logs) lines → HasSessionNumbered number logs ⊎ (lines_by number lines ≡ [])
among_or_none number logs [] there = inr refl
among_or_none number logs (l ∷ lines) there = go (l.session == number) refl (among_or_none number logs lines (All-tail (λ (x : LineCall). HasSessionNumbered x.session logs) l lines there))
  where
    go : (b : Bool) → (l.session == number) ≡ b → HasSessionNumbered number logs ⊎ (lines_by number lines ≡ []) → HasSessionNumbered number logs ⊎ (cond b (l ∷ lines_by number lines) (lines_by number lines) ≡ [])
    go true is rest =
        let own : l.session ≡ number = grind (arith, nat_tests, is) in
        inl (subst (λ (n : ℕ). HasSessionNumbered n logs) own (All-head (λ (x : LineCall). HasSessionNumbered x.session logs) l lines there))
    go false is (inl found) = inl found
    go false is (inr none) = inr none

among_later : (number : ℕ) (o : Sitting) (logs : List Sitting) (N : Type 0) → (o.number == number) ≡ false → HasSessionNumbered number (o ∷ logs) ⊎ N → HasSessionNumbered number logs ⊎ N
among_later number o logs N is (inl (inl own)) = absurd (grind (arith, nat_tests, own, is))
among_later number o logs N is (inl (inr found)) = inl found
among_later number o logs N is (inr none) = inr none

own_made : (stated : List Stated) (all : List LineCall) (number : ℕ) (logs : List Sitting) → All (HasMade stated all) logs → HasSessionNumbered number logs ⊎ (lines_by number all ≡ []) → map line_of_entry (own_of number (map log_of logs)) ≡ lines_by number all
own_made stated all number [] made (inl found) = absurd found
own_made stated all number [] made (inr none) = sym none
own_made stated all number (o ∷ logs) made among = go (o.number == number) refl (own_made stated all number logs (All-tail (HasMade stated all) o logs made))
  where
    go : (b : Bool) → (o.number == number) ≡ b → (HasSessionNumbered number logs ⊎ (lines_by number all ≡ []) → map line_of_entry (own_of number (map log_of logs)) ≡ lines_by number all) → map line_of_entry (if b then o.calls else own_of number (map log_of logs)) ≡ lines_by number all
    go true is rest =
        let own : o.number ≡ number = grind (arith, nat_tests, is) in
        subst (λ (n : ℕ). map line_of_entry o.calls ≡ lines_by n all) own (All-head (HasMade stated all) o logs made).calls
    go false is rest = rest (among_later number o logs (lines_by number all ≡ []) is among)

own_answered : (P : Entry → Type 0) (number : ℕ) (logs : List Sitting) → All (λ (o : Sitting). All P o.calls) logs → All P (own_of number (map log_of logs))
own_answered P number [] h = All-nil P
own_answered P number (o ∷ logs) h = go (o.number == number) (own_answered P number logs (All-tail (λ (p : Sitting). All P p.calls) o logs h))
  where
    go : (b : Bool) → All P (own_of number (map log_of logs)) → All P (if b then o.calls else own_of number (map log_of logs))
    go true rest = All-head (λ (p : Sitting). All P p.calls) o logs h
    go false rest = rest

-- A transcript that they account for.
pub are_made : (stated : List Stated) (given : ℕ) (all : List LineCall) (logs : List Sitting) (transcript : List Entry) → Accounts given (map log_of logs) transcript → All (HasMade stated all) logs → All (λ l. HasSessionNumbered l.session logs) all → AreCallsMade stated all transcript
are_made stated given all logs transcript accounts made there = record {
  each = λ session. ap (map line_of_entry) (accounts.agree session) ∙ own_made stated all session logs made (among_or_none session logs all there);
  answered = all_by_class (λ (e : Entry). e.session) (IsAnswered stated) transcript (λ e.
      subst (All (IsAnswered stated)) (sym (accounts.agree e.session)) (own_answered (IsAnswered stated) e.session logs (All-weaker (HasMade stated all) (λ (o : Sitting). All (IsAnswered stated) o.calls) (λ o its. its.answered) logs made)));
}

-- Workers that have done their shares.

among_left : (number : ℕ) (xs ys : List Sitting) → HasSessionNumbered number xs → HasSessionNumbered number (xs ++ ys)
among_left number [] ys found = absurd found
among_left number (x ∷ xs) ys (inl own) = inl own
among_left number (x ∷ xs) ys (inr found) = inr (among_left number xs ys found)

among_right : (number : ℕ) (xs ys : List Sitting) → HasSessionNumbered number ys → HasSessionNumbered number (xs ++ ys)
among_right number [] ys found = found
among_right number (x ∷ xs) ys found = inr (among_right number xs ys found)

among_flat : {X : Type 0} (number : ℕ) (f : X → List Sitting) (xs : List X) (k : ℕ) (x : X) → slice_get xs k ≡ Some x → HasSessionNumbered number (f x) → HasSessionNumbered number (flat_map f xs)
among_flat number f [] k x at found = absurd cc
among_flat number f (y ∷ xs) zero x at found = let same : y ≡ x = cc in among_left number (f y) (flat_map f xs) (subst (λ z. HasSessionNumbered number (f z)) (sym same) found)
among_flat number f (y ∷ xs) (suc k) x at found = among_right number (f y) (flat_map f xs) (among_flat number f xs k x at found)

-- the same share, result and number of workers
pub worked_as : (stated : List Stated) (n workers : ℕ) (job share : Share) (r result : Result Share WorkFault) → n ≡ workers → job ≡ share → r ≡ result
    → IfOk r (HasWorked stated n job) → IfOk result (HasWorked stated workers share)
worked_as stated n workers job share r result is is' is'' has =
    subst (λ (x : Result Share WorkFault). IfOk x (HasWorked stated workers share)) is''
    (subst (λ (s : Share). IfOk r (HasWorked stated workers s)) is' (subst (λ (m : ℕ). IfOk r (HasWorked stated m job)) is has))

-- A round.
module _ (stated : List Stated) (crew after : List Share) (results : List (Result Share WorkFault)) (worked : HaveWorked stated crew results) (done : map Ok after ≡ results) where
  pub as_many : length after ≡ length crew
  as_many = sym (length-map after Ok) ∙ (ap length done ∙ worked.counted)

  -- what each worker has done
  done_by : (worker : ℕ) (share : Share) → slice_get after worker ≡ Some share → (before : Share) × (slice_get crew worker ≡ Some before) × HasWorked stated (length crew) before share
  done_by worker share at =
      let within = slice_get_within after worker share at in
      let before : (s : Share) × (slice_get crew worker ≡ Some s) = some_at crew worker (omega (arith, as_many, within)) in
      let given : slice_get results worker ≡ Some (Ok share) = ap (λ (rs : List (Result Share WorkFault)). slice_get rs worker) (sym done) ∙ map_at Ok after worker share at in
      (before.0, before.1, worked.each worker before.0 (Ok share) before.1 given)

  pub at_rest : AreAtRest after
  at_rest worker share at = (done_by worker share at).2.lines

  pub rested : (all : List LineCall) → AreUnderWay stated all crew → HaveRested stated all after
  rested all under worker share at =
      let its = done_by worker share at in
      let has : HasWorked stated (length crew) its.0 share = its.2 in
      let way = under worker its.0 its.1 in
      subst (λ (n : ℕ). HasRested stated n worker all share) (sym as_many)
      (record {
        work = subst (λ (ls : List LineCall). IsAtWork stated (length crew) worker ls share.sessions) way.held (has.made worker way.done way.work);
        lines = has.lines;
      })

-- workers that hold no call have rested
pub rested_already : (stated : List Stated) (crew : List Share) → AreAtRest crew → (all : List LineCall) → AreUnderWay stated all crew → HaveRested stated all crew
rested_already stated crew rest all under worker share at =
    let way = under worker share at in
    let none : share.lines ≡ [] = rest worker share at in
    let held : way.done ≡ dealt_to (length crew) worker all = sym (append-nil way.done) ∙ ap (λ (ls : List LineCall). way.done ++ ls) (sym none) ∙ way.held in
    record { work = subst (λ (ls : List LineCall). IsAtWork stated (length crew) worker ls share.sessions) held way.work; lines = none }

-- a worker's lines are all lines of its sessions
shared_lines : (workers worker number : ℕ) (all : List LineCall) → number % workers ≡ worker → lines_by number (dealt_to workers worker all) ≡ lines_by number all
shared_lines workers worker number all own = twice_kept (λ (l : LineCall). l.session == number) (λ (l : LineCall). (l.session % workers) == worker) all (λ l is.
    let same : l.session ≡ number = grind (arith, nat_tests, is) in
    let at : l.session % workers ≡ worker = ap (λ (n : ℕ). n % workers) same ∙ own in
    grind (arith, nat_tests, at))

-- All workers have rested.
module _ (stated : List Stated) (all : List LineCall) (crew : List Share) (rest : HaveRested stated all crew) where
  made_by : (worker : ℕ) (share : Share) → slice_get crew worker ≡ Some share → All (HasMade stated all) share.sessions
  made_by worker share at =
      let its : IsAtWork stated (length crew) worker (dealt_to (length crew) worker all) share.sessions = (rest worker share at).work in
      all_from (HasMade stated all) share.sessions (λ k o there.
      let made : HasMade stated (dealt_to (length crew) worker all) o = all_at (HasMade stated (dealt_to (length crew) worker all)) share.sessions k o its.made there in
      record { calls = made.calls ∙ shared_lines (length crew) worker o.number all (its.seated k o there).0; answered = made.answered })

  pub all_made : All (HasMade stated all) (flat_map (λ (s : Share). s.sessions) crew)
  all_made = all_flat (HasMade stated all) (λ (s : Share). s.sessions) crew made_by

  there_by : 0 < length crew → (l : LineCall) → All (λ (x : LineCall). HasSessionNumbered x.session (flat_map (λ (s : Share). s.sessions) crew)) (dealt_to (length crew) (l.session % length crew) all)
  there_by some l =
      let found : (share : Share) × (slice_get crew (l.session % length crew) ≡ Some share) = some_at crew (l.session % length crew) (mod_below l.session (length crew) some) in
      All-weaker (λ (x : LineCall). HasSessionNumbered x.session found.0.sessions) (λ (x : LineCall). HasSessionNumbered x.session (flat_map (λ (s : Share). s.sessions) crew))
      (λ x there. among_flat x.session (λ (s : Share). s.sessions) crew (l.session % length crew) found.0 found.1 there)
      (dealt_to (length crew) (l.session % length crew) all) (rest (l.session % length crew) found.0 found.1).work.there

  pub all_there : 0 < length crew → All (λ l. HasSessionNumbered l.session (flat_map (λ (s : Share). s.sessions) crew)) all
  all_there some = all_by_class (λ (l : LineCall). l.session % length crew) (λ (x : LineCall). HasSessionNumbered x.session (flat_map (λ (s : Share). s.sessions) crew)) all (there_by some)

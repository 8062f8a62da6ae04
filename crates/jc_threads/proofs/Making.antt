-- What a line more adds to what a worker's sessions have made.
use Rattle.std.proofs.Common.{◌≡◌, ◌≢◌, inl, inr, ℕ, zero, suc, Bool, true, false, ◌%◌, ◌/◌, List, [], ◌∷◌, ◌++◌, map, Some, Result, Ok, Err, IfOk, IsOk, refl, sym, ◌∙◌, ap, subst, arith}
use Rattle.std.specs.Prelude.{slice_get, slice_set, ◌==◌}
use Rattle.std.specs.List.{All}
use Rattle.std.proofs.lemmas.List.{map_push}
use Rattle.std.proofs.lemmas.List.Elements.{All-nil, All-push, All-weaker}
use Rattle.std.proofs.lemmas.Bool.{false≢true}
use Rattle.std.proofs.lemmas.Bool.Decides.{nat_tests}
use Rattle.jc_model.specs.declared.call.Reply.{Reply}
use Rattle.jc_model.specs.declared.config.CacheConfig.{CacheConfig}
use Rattle.jc_model.specs.declared.event.End.TheVariants.{Replied}
use Rattle.jc_model.specs.declared.event.Entry.{Entry}
use Rattle.jc_model.proofs.Lives.{at_same, at_other}
use Rattle.jc_script.specs.declared.line.LineCall.{LineCall}
use Rattle.jc_locked.specs.Calls.{Adds, call_entry}
use Rattle.jc_locked.specs.Sessions.{Own, Sitting, log_of}
use Rattle.jc_locked.specs.declared.fault.CallFault.{CallFault}
use Rattle.jc_locked.specs.Stated.{Stated}
use Rattle.jc_threads.specs.Dealing.{AreSeated, AreFresh, IsAtWork}
use Rattle.jc_script.specs.Calls.{line_of_entry}
use Rattle.jc_threads.specs.Lines.{lines_by, IsAnswered, HasMade, HasSessionNumbered}
use Rattle.jc_threads.proofs.Lists.{all_at, all_from, kept_more, left_out}

-- of the session whose line it is
has_made_more : (configs : List CacheConfig) (stated : List Stated) (done : List LineCall) (l : LineCall) (old new : Sitting) (reply : Reply) → old.number ≡ l.session → new.number ≡ old.number
    → Adds configs stated old new l.id l.at l.call (Replied reply) → HasMade stated done old → HasMade stated (done ++ l ∷ []) new
has_made_more configs stated done l old new reply own same adds made =
    let e : Entry = call_entry old.number l.id l.at l.call adds.answers adds.told (Replied reply) in
    let line : line_of_entry e ≡ l = ap (λ (n : ℕ). record { session = n; id = l.id; at = l.at; call = l.call }) own in
    let kept : lines_by old.number (done ++ l ∷ []) ≡ lines_by old.number done ++ l ∷ [] = kept_more (λ (x : LineCall). x.session == old.number) done l (grind (arith, nat_tests, own)) in
    record {
      calls =
          ap (map line_of_entry) adds.added ∙ (map_push line_of_entry old.calls e ∙ (ap (λ (ls : List LineCall). ls ++ line_of_entry e ∷ []) made.calls ∙ (ap (λ (x : LineCall). lines_by old.number done ++ x ∷ []) line
          ∙ (sym kept ∙ ap (λ (n : ℕ). lines_by n (done ++ l ∷ [])) (sym same)))));
      answered = subst (All (IsAnswered stated)) (sym adds.added) (All-push (IsAnswered stated) old.calls e made.answered (record { replied = tt; answered = adds.answered }));
    }

pub made_if_replied : (configs : List CacheConfig) (stated : List Stated) (done : List LineCall) (l : LineCall) (old new : Sitting) (r : Result Reply CallFault) → old.number ≡ l.session → new.number ≡ old.number
    → IfOk r (λ reply. Adds configs stated old new l.id l.at l.call (Replied reply)) → IsOk r → HasMade stated done old → HasMade stated (done ++ l ∷ []) new
made_if_replied configs stated done l old new (Ok reply) own same adds is made = has_made_more configs stated done l old new reply own same adds made
made_if_replied configs stated done l old new (Err fault) own same adds is made = absurd (false≢true is)

-- of another
has_made_other : (stated : List Stated) (done : List LineCall) (l : LineCall) (o : Sitting) → l.session ≢ o.number → HasMade stated done o → HasMade stated (done ++ l ∷ []) o
has_made_other stated done l o other made = record {
  calls = made.calls ∙ sym (left_out (λ (x : LineCall). x.session == o.number) done l (grind (arith, nat_tests, other)));
  answered = made.answered;
}

-- Sessions with a number.

pub among_at : (logs : List Sitting) (k : ℕ) (o : Sitting) (number : ℕ) → slice_get logs k ≡ Some o → o.number ≡ number → HasSessionNumbered number logs
among_at [] k o number at is = absurd cc
among_at (p ∷ logs) zero o number at is = let same : p ≡ o = cc in inl (ap (λ (q : Sitting). q.number) same ∙ is)
among_at (p ∷ logs) (suc k) o number at is = inr (among_at logs k o number at is)

among_set : (logs : List Sitting) (k : ℕ) (o o' : Sitting) (number : ℕ) → slice_get logs k ≡ Some o → o'.number ≡ o.number → HasSessionNumbered number logs → HasSessionNumbered number (slice_set logs k o')
among_set [] k o o' number at same there = there
among_set (p ∷ logs) zero o o' number at same (inl is) = let here : p ≡ o = cc in inl (same ∙ (ap (λ (q : Sitting). q.number) (sym here) ∙ is))
among_set (p ∷ logs) zero o o' number at same (inr there) = inr there
among_set (p ∷ logs) (suc k) o o' number at same (inl is) = inl is
among_set (p ∷ logs) (suc k) o o' number at same (inr there) = inr (among_set logs k o o' number at same there)

-- A worker's sessions, of which the one at a place has made a line.
module _ (stated : List Stated) (workers worker : ℕ) (done : List LineCall) (l : LineCall) (sessions : List Sitting) (place : ℕ) (o o' : Sitting) (at : slice_get sessions place ≡ Some o) (looked : l.session / workers ≡ place) (own : o.number ≡ l.session) (same : o'.number ≡ o.number) (work : IsAtWork stated workers worker done sessions) where
  still_seated : AreSeated workers worker (slice_set sessions place o')
  still_seated k x there = go (place == k) refl
    where
      go : (b : Bool) → (place == k) ≡ b → (x.number % workers ≡ worker) × (x.number / workers ≡ k)
      go true is =
          let here : place ≡ k = grind (arith, nat_tests, is) in
          let this : Some o' ≡ Some x = sym (at_same sessions place o o' at) ∙ (ap (slice_get (slice_set sessions place o')) here ∙ there) in
          let x_is : o' ≡ x = cc in
          let numbered : o.number ≡ x.number = sym same ∙ ap (λ (q : Sitting). q.number) x_is in
          subst (λ (n : ℕ). (n % workers ≡ worker) × (n / workers ≡ k)) numbered (subst (λ (j : ℕ). (o.number % workers ≡ worker) × (o.number / workers ≡ j)) here (work.seated place o at))
      go false is =
          let elsewhere : place ≢ k = grind (arith, nat_tests, is) in
          work.seated k x (sym (at_other sessions place k o' elsewhere) ∙ there)

  all_made : HasMade stated (done ++ l ∷ []) o' → All (HasMade stated (done ++ l ∷ [])) (slice_set sessions place o')
  all_made made = all_from (HasMade stated (done ++ l ∷ [])) (slice_set sessions place o') (λ k x there. go k x there (place == k) refl)
    where
      go : (k : ℕ) (x : Sitting) → slice_get (slice_set sessions place o') k ≡ Some x → (b : Bool) → (place == k) ≡ b → HasMade stated (done ++ l ∷ []) x
      go k x there true is =
          let here : place ≡ k = grind (arith, nat_tests, is) in
          let this : Some o' ≡ Some x = sym (at_same sessions place o o' at) ∙ (ap (slice_get (slice_set sessions place o')) here ∙ there) in
          let x_is : o' ≡ x = cc in
          subst (HasMade stated (done ++ l ∷ [])) x_is made
      go k x there false is =
          let elsewhere : place ≢ k = grind (arith, nat_tests, is) in
          let before : slice_get sessions k ≡ Some x = sym (at_other sessions place k o' elsewhere) ∙ there in
          let other : l.session ≢ x.number = λ (e : l.session ≡ x.number). elsewhere (sym looked ∙ (ap (λ (n : ℕ). n / workers) e ∙ (work.seated k x before).1)) in
          has_made_other stated done l x other (all_at (HasMade stated done) sessions k x work.made before)

  all_there : All (λ (x : LineCall). HasSessionNumbered x.session (slice_set sessions place o')) (done ++ l ∷ [])
  all_there =
      All-push (λ (x : LineCall). HasSessionNumbered x.session (slice_set sessions place o')) done l
      (All-weaker (λ (x : LineCall). HasSessionNumbered x.session sessions) (λ (x : LineCall). HasSessionNumbered x.session (slice_set sessions place o')) (λ x there. among_set sessions place o o' x.session at same there) done work.there)
      (among_at (slice_set sessions place o') place o' l.session (at_same sessions place o o' at) (same ∙ own))

  pub at_work_more : HasMade stated (done ++ l ∷ []) o' → IsAtWork stated workers worker (done ++ l ∷ []) (slice_set sessions place o')
  at_work_more made = record { seated = still_seated; made = all_made made; there = all_there }

-- before the first line
pub at_work_first : (stated : List Stated) (workers worker : ℕ) (sessions : List Sitting) → AreSeated workers worker sessions → AreFresh sessions → IsAtWork stated workers worker [] sessions
at_work_first stated workers worker sessions seated fresh = record {
  seated = seated;
  made = All-weaker (λ (o : Sitting). o.calls ≡ []) (HasMade stated []) (λ o none. record { calls = ap (map line_of_entry) none; answered = subst (All (IsAnswered stated)) (sym none) (All-nil (IsAnswered stated)) }) sessions fresh;
  there = All-nil (λ (x : LineCall). HasSessionNumbered x.session sessions);
}

-- Sessions with the same logs.

record Twin (xs : List Sitting) (k : ℕ) (y : Sitting) : Type 0 where
  own : Sitting
  there : slice_get xs k ≡ Some own
  same : log_of own ≡ log_of y

first_log : (xs ys : List Sitting) (x y : Sitting) → map log_of (y ∷ ys) ≡ map log_of (x ∷ xs) → log_of x ≡ log_of y
first_log xs ys x y same = let heads : log_of y ≡ log_of x = cc in sym heads

other_logs : (xs ys : List Sitting) (x y : Sitting) → map log_of (y ∷ ys) ≡ map log_of (x ∷ xs) → map log_of ys ≡ map log_of xs
other_logs xs ys x y same = cc

twin : (xs ys : List Sitting) (k : ℕ) (y : Sitting) → map log_of ys ≡ map log_of xs → slice_get ys k ≡ Some y → Twin xs k y
twin xs [] k y same at = absurd cc
twin [] (z ∷ ys) k y same at = absurd cc
twin (x ∷ xs) (z ∷ ys) zero y same at = let here : z ≡ y = cc in record { own = x; there = refl; same = first_log xs ys x z same ∙ ap log_of here }
twin (x ∷ xs) (z ∷ ys) (suc k) y same at = let t = twin xs ys k y (other_logs xs ys x z same) at in record { own = t.own; there = t.there; same = t.same }

among_same : (number : ℕ) (xs ys : List Sitting) → map log_of ys ≡ map log_of xs → HasSessionNumbered number xs → HasSessionNumbered number ys
among_same number [] ys same found = absurd found
among_same number (x ∷ xs) [] same found = absurd cc
among_same number (x ∷ xs) (y ∷ ys) same (inl is) = inl (ap (λ (o : Own). o.number) (sym (first_log xs ys x y same)) ∙ is)
among_same number (x ∷ xs) (y ∷ ys) same (inr found) = inr (among_same number xs ys (other_logs xs ys x y same) found)

has_made_same : (stated : List Stated) (done : List LineCall) (x y : Sitting) → log_of x ≡ log_of y → HasMade stated done x → HasMade stated done y
has_made_same stated done x y same made =
    let calls : x.calls ≡ y.calls = ap (λ (o : Own). o.calls) same in
    let number : x.number ≡ y.number = ap (λ (o : Own). o.number) same in
    record {
      calls = ap (map line_of_entry) (sym calls) ∙ (made.calls ∙ ap (λ (n : ℕ). lines_by n done) number);
      answered = subst (All (IsAnswered stated)) calls made.answered;
    }

pub at_work_same : (stated : List Stated) (workers worker : ℕ) (done : List LineCall) (xs ys : List Sitting) → map log_of ys ≡ map log_of xs → IsAtWork stated workers worker done xs → IsAtWork stated workers worker done ys
at_work_same stated workers worker done xs ys same work = record {
  seated = λ k y at.
      let t = twin xs ys k y same at in
      subst (λ (n : ℕ). (n % workers ≡ worker) × (n / workers ≡ k)) (ap (λ (o : Own). o.number) t.same) (work.seated k t.own t.there);
  made = all_from (HasMade stated done) ys (λ k y at.
      let t = twin xs ys k y same at in
      has_made_same stated done t.own y t.same (all_at (HasMade stated done) xs k t.own work.made t.there));
  there = All-weaker (λ (l : LineCall). HasSessionNumbered l.session xs) (λ (l : LineCall). HasSessionNumbered l.session ys) (λ l found. among_same l.session xs ys same found) done work.there;
}

-- What the writer has answered, from one moment to the next.
use Rattle.std.proofs.Common.{◌≡◌, ℕ, false, IsTrue, List, [], ◌∷◌, ◌++◌, Option, Some, None, Result, Ok, Err, inl, refl, sym, ap, ◌∙◌, subst, append-nil}
use Rattle.std.specs.List.{filter}
use Rattle.std.specs.Prelude.{MatchResult}
use Rattle.std.proofs.lemmas.Bool.{false≢true}
use Rattle.std.proofs.lemmas.List.{map_push}
use Rattle.std.proofs.lemmas.List.Elements.{All-nil, All-push, filter-append}
use Rattle.jc_hooks.specs.Asking.{MayGiveBy, GivesAnswers}
use Rattle.jc_hooks.proofs.Behind.{gives_more}
use Rattle.jc_model.specs.declared.call.Answer.{Answer}
use Rattle.jc_model.specs.declared.call.Answer.TheVariants.{Loaded, LoadFailed, Written, WriteFailed, Processed, Told}
use Rattle.jc_model.specs.declared.call.Notice.{Notice}
use Rattle.jc_model.specs.declared.call.Request.{Request}
use Rattle.jc_model.specs.declared.call.Request.TheVariants.{Load, Write, Delete, Process, Tell}
use Rattle.jc_model.specs.Run.{is_answer_to, for_load, for_write, for_process, for_tell, fits}
use Rattle.jc_model.specs.declared.call.Reply.{Reply}
use Rattle.jc_model.specs.declared.event.Entry.{Entry}
use Rattle.jc_locked.specs.declared.fault.CallFault.{CallFault}
use Rattle.jc_locked.specs.declared.hooks.LockedHooks.{LockedHooks}
use Rattle.jc_shared.specs.Served.{ServesCall}
use Rattle.jc_locked.specs.Serving.{is_write, is_of_writer, AreWritten, ServesRequest, TakesIn, TellsListeners, TellsListenersOn, HasStated, HasWritten, WritesOn, StatesOn}

one_more : (answers : List Answer) (a : Answer) → filter is_of_writer (answers ++ a ∷ []) ≡ filter is_of_writer answers ++ filter is_of_writer (a ∷ [])
one_more answers a = filter-append is_of_writer answers (a ∷ [])

-- an answer of the writer is one more of its answers
pub is_one_more : (answers : List Answer) (a : Answer) (q : Request) (given : List (Request × Answer)) → IsTrue (fits for_write a) → IsTrue (is_write q) → AreWritten answers given → AreWritten (answers ++ a ∷ []) (given ++ (q, a) ∷ [])
is_one_more answers a q given fit is are = record {
  writes = All-push (λ x. IsTrue (is_write x.0)) given (q, a) are.writes is;
  answered = map_push (λ x. x.1) given (q, a) ∙ ap (λ (bs : List Answer). bs ++ a ∷ []) are.answered ∙ sym (one_more answers a ∙ ap (λ (bs : List Answer). filter is_of_writer answers ++ bs) (here a fit));
}
  where
    here : (b : Answer) → IsTrue (fits for_write b) → filter is_of_writer (b ∷ []) ≡ b ∷ []
    here Written fit = refl
    here WriteFailed fit = refl
    here (Loaded v) fit = absurd (false≢true fit)
    here LoadFailed fit = absurd (false≢true fit)
    here (Processed v) fit = absurd (false≢true fit)
    here Told fit = absurd (false≢true fit)

-- another answer is none
pub is_none_more : (answers : List Answer) (a : Answer) (given : List (Request × Answer)) → is_of_writer a ≡ false → AreWritten answers given → AreWritten (answers ++ a ∷ []) given
is_none_more answers a given other are = record {
  writes = are.writes;
  answered = are.answered ∙ sym (one_more answers a ∙ ap (λ (bs : List Answer). filter is_of_writer answers ++ bs) (here a other) ∙ append-nil (filter is_of_writer answers));
}
  where
    here : (b : Answer) → is_of_writer b ≡ false → filter is_of_writer (b ∷ []) ≡ []
    here Written other = cc
    here WriteFailed other = cc
    here (Loaded v) other = refl
    here LoadFailed other = refl
    here (Processed v) other = refl
    here Told other = refl

not_loaded : (a : Answer) → IsTrue (fits for_load a) → is_of_writer a ≡ false
not_loaded Written fit = absurd (false≢true fit)
not_loaded WriteFailed fit = absurd (false≢true fit)
not_loaded (Loaded v) fit = refl
not_loaded LoadFailed fit = refl
not_loaded (Processed v) fit = refl
not_loaded Told fit = refl

not_processed : (a : Answer) → IsTrue (fits for_process a) → is_of_writer a ≡ false
not_processed Written fit = absurd (false≢true fit)
not_processed WriteFailed fit = absurd (false≢true fit)
not_processed (Loaded v) fit = refl
not_processed LoadFailed fit = refl
not_processed (Processed v) fit = refl
not_processed Told fit = refl

not_told : (a : Answer) → IsTrue (fits for_tell a) → is_of_writer a ≡ false
not_told Written fit = absurd (false≢true fit)
not_told WriteFailed fit = absurd (false≢true fit)
not_told (Loaded v) fit = refl
not_told LoadFailed fit = refl
not_told (Processed v) fit = refl
not_told Told fit = refl

may_give_none : {W : Type 0} (may : W → List (Request × Answer) → Type 0) (o : Option W) → MayGiveBy may o []
may_give_none may None = tt
may_give_none may (Some w) = tt

module _ {W K : Type 0} (may : W → List (Request × Answer) → Type 0) where
  pub has_stated : (first new : LockedHooks W K) (answers : List Answer) → HasWritten may first new answers → HasStated may first answers
  has_stated first new answers h = record {
    given = h.given;
    are = h.are;
    stated = subst (MayGiveBy may first.writer) (append-nil h.given) (h.stated [] (may_give_none may new.writer));
  }

  module _ (state_after : K → List Notice → List ℕ) (old new : LockedHooks W K) (answers : List Answer) where
    -- the writer has given one answer more
    writes_more : (q : Request) (a : Answer) → IsTrue (is_write q) → IsTrue (fits for_write a) → GivesAnswers may old.writer new.writer ((q, a) ∷ []) → WritesOn may old new answers (answers ++ a ∷ [])
    writes_more q a is fit gave first h = record {
      given = h.given ++ (q, a) ∷ [];
      are = is_one_more answers a q h.given fit is h.are;
      stated = gives_more may first.writer old.writer new.writer h.given ((q, a) ∷ []) h.stated gave;
    }

    -- or was not asked
    writes_none : (a : Answer) → is_of_writer a ≡ false → new.writer ≡ old.writer → WritesOn may old new answers (answers ++ a ∷ [])
    writes_none a other same first h = record {
      given = h.given;
      are = is_none_more answers a h.given other h.are;
      stated = λ rest m. h.stated rest (subst (λ (o : Option W). MayGiveBy may o rest) same m);
    }

    by_request : (q : Request) (a : Answer) → IsTrue (is_answer_to q a) → ServesRequest may state_after old new q a → WritesOn may old new answers (answers ++ a ∷ [])
    by_request (Write key value) a fit s = writes_more (Write key value) a refl fit s.0
    by_request (Delete key) a fit s = writes_more (Delete key) a refl fit s.0
    by_request (Load key) a fit s = writes_none a (not_loaded a fit) s.0
    by_request (Process key n value argument) a fit s = writes_none a (not_processed a fit) s.0
    by_request (Tell notices) a fit s = writes_none a (not_told a fit) s.0

    pub takes_in : (q : Request) (answers' : List Answer) → TakesIn may state_after old new q answers answers' → WritesOn may old new answers answers'
    takes_in q answers' t = subst (WritesOn may old new answers) (sym t.added) (by_request q t.answer t.fits t.serves)

-- nothing is written behind no answers
pub written_none : {W K : Type 0} (may : W → List (Request × Answer) → Type 0) (hooks : LockedHooks W K) → HasWritten may hooks hooks []
written_none may hooks = record { given = []; are = record { writes = All-nil (λ x. IsTrue (is_write x.0)); answered = refl }; stated = λ rest gives. gives }

-- a call that its callbacks have carried on, from its begin to its end
pub serves_carried : {W K : Type 0} (may : W → List (Request × Answer) → Type 0) (state_after : K → List Notice → List ℕ) (hooks hooks' : LockedHooks W K) (d e : Entry) (old new : List Entry) (r : Result Reply CallFault) → d.answers ≡ [] → d.told ≡ [] → new ≡ old ++ e ∷ []
    → TellsListenersOn state_after hooks hooks' d.told e.told → MatchResult r (λ _. WritesOn may hooks hooks' d.answers e.answers) (λ _. StatesOn may hooks d.answers e.answers) → ServesCall may state_after hooks hooks' old new r
serves_carried may state_after hooks hooks' d e old new r unanswered untold added told wrote =
    inl (record {
      entry = e;
      added = added;
      told = told hooks (subst (TellsListeners state_after hooks hooks) (sym untold) (λ rest. refl));
      wrote = by r wrote;
    })
  where
    first : HasWritten may hooks hooks d.answers
    first = subst (HasWritten may hooks hooks) (sym unanswered) (written_none may hooks)

    by : (r : Result Reply CallFault) → MatchResult r (λ _. WritesOn may hooks hooks' d.answers e.answers) (λ _. StatesOn may hooks d.answers e.answers) → MatchResult r (λ _. HasWritten may hooks hooks' e.answers) (λ _. HasStated may hooks e.answers)
    by (Ok reply) h = h hooks first
    by (Err fault) h = h hooks first

-- one that had its reply at once
pub serves_at_once : {W K : Type 0} (may : W → List (Request × Answer) → Type 0) (state_after : K → List Notice → List ℕ) (hooks : LockedHooks W K) (e : Entry) (old new : List Entry) (reply : Reply) → e.answers ≡ [] → e.told ≡ [] → new ≡ old ++ e ∷ []
    → ServesCall may state_after hooks hooks old new (Ok reply)
serves_at_once may state_after hooks e old new reply unanswered untold added =
    inl (record {
      entry = e;
      added = added;
      told = subst (TellsListeners state_after hooks hooks) (sym untold) (λ rest. refl);
      wrote = subst (HasWritten may hooks hooks) (sym unanswered) (written_none may hooks);
    })

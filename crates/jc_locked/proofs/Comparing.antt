-- Lists that part, and sessions that differ.
use Rattle.std.proofs.Common.{◌≡◌, ◌≢◌, ℕ, ◌+◌, ◌-◌, ◌<◌, ◌≤◌, Bool, true, false, if◌then◌else◌, List, [], ◌∷◌, ◌++◌, length, take, length-append, Option, Some, None, Result, Ok, Err, inl, inr, refl, sym, ◌∙◌, ap, subst, arith, append-nil}
use Rattle.std.specs.Prelude.{slice_get, ltb, ◌==◌, IfErr}
use Rattle.std.specs.List.{All}
use Rattle.std.proofs.lemmas.List.Elements.{filter-append, All-head, All-tail, All-cons}
use Rattle.std.proofs.lemmas.Bool.{false≢true}
use Rattle.std.proofs.lemmas.Bool.Decides.{nat_tests}
use Rattle.jc_model.specs.declared.config.CacheConfig.{CacheConfig}
use Rattle.jc_model.specs.declared.event.Entry.{Entry}
use Rattle.jc_model.specs.Legal.{History, IsLegal}
use Rattle.jc_locked.specs.declared.fault.CloseFault.{CloseFault}
use Rattle.jc_locked.specs.declared.fault.CloseFault.TheVariants.{Missing, StillOpen, Differs, OutOfMemory}
use Rattle.jc_locked.specs.Sessions.{Own, BeginsWith}
use Rattle.jc_locked.specs.Accounts.{calls_of, own_of, IsLeastFrom, PartAt, IsAuditFault, IsCloseRefusal}

take_none : (xs : List Entry) → take 0 xs ≡ []
take_none [] = refl
take_none (x ∷ xs) = refl

parted : (front more rest : List Entry) → slice_get more 0 ≢ slice_get rest 0 → PartAt (front ++ more) (front ++ rest) (length front)
parted [] more rest differ = record { within = (omega arith, omega arith); before = take_none more ∙ sym (take_none rest); here = differ }
parted (e ∷ front) more rest differ =
    let p = parted front more rest differ in
    record { within = (omega (arith, p.within.0), omega (arith, p.within.1)); before = ap (λ xs. e ∷ xs) p.before; here = p.here }

-- they part behind what they have in common
pub part_here : (xs ys front more rest : List Entry) (place : ℕ) → xs ≡ front ++ more → ys ≡ front ++ rest → place ≡ length front → slice_get more 0 ≢ slice_get rest 0 → PartAt xs ys place
part_here xs ys front more rest place is is' at differ = rw (is, is', at) (parted front more rest differ)

-- an entry more
calls_push : (session : ℕ) (done : List Entry) (e : Entry) (b : Bool) → (e.session == session) ≡ b → calls_of session (done ++ e ∷ []) ≡ calls_of session done ++ (if b then e ∷ [] else [])
calls_push session done e true h = filter-append (λ d. d.session == session) done (e ∷ []) ∙ ap (λ es. calls_of session done ++ es) (rw h refl)
calls_push session done e false h = filter-append (λ d. d.session == session) done (e ∷ []) ∙ ap (λ es. calls_of session done ++ es) (rw h refl)

-- of another session it adds nothing
pub calls_kept : (session : ℕ) (done : List Entry) (e : Entry) → e.session ≢ session → calls_of session (done ++ e ∷ []) ≡ calls_of session done
calls_kept session done e other = calls_push session done e false (grind (arith, nat_tests)) ∙ append-nil (calls_of session done)

not_none : (xs : List Entry) (e : Entry) → xs ++ e ∷ [] ≢ []
not_none [] e is = cc
not_none (x ∷ xs) e is = cc

pub calls_some : (session : ℕ) (done : List Entry) (e : Entry) → e.session ≡ session → calls_of session (done ++ e ∷ []) ≢ []
calls_some session done e own is = not_none (calls_of session done) e (sym (calls_push session done e true (grind (arith, nat_tests))) ∙ is)

-- what had an entry still has one
pub calls_more : (session : ℕ) (done : List Entry) (e : Entry) → calls_of session done ≢ [] → calls_of session (done ++ e ∷ []) ≢ []
calls_more session done e some is = go (e.session == session) refl
  where
    front : (xs ys : List Entry) → xs ++ ys ≡ [] → xs ≡ []
    front [] ys h = refl
    front (x ∷ xs) ys h = absurd cc

    go : (b : Bool) → (e.session == session) ≡ b → ⊥
    go b h = some (front (calls_of session done) (if b then e ∷ [] else []) (sym (calls_push session done e b h) ∙ is))

-- The least session from a number on, with an entry more.
module _ (given : ℕ) (done : List Entry) (e : Entry) where
  pub least_below : (least : Option ℕ) → e.session < given → IsLeastFrom given done least → IsLeastFrom given (done ++ e ∷ []) least
  least_below None below h = λ number from. calls_kept number done e (λ is. omega (arith, below, from, is)) ∙ h number from
  least_below (Some least) below h = (h.0, calls_more least done e h.1, λ number from less. calls_kept number done e (λ is. omega (arith, below, from, is)) ∙ h.2 number from less)

  pub least_first : given ≤ e.session → IsLeastFrom given done None → IsLeastFrom given (done ++ e ∷ []) (Some e.session)
  least_first from h = (from, calls_some e.session done e refl, λ number from' less. calls_kept number done e (λ is. omega (arith, less, is)) ∙ h number from')

  pub least_same : (least : ℕ) → least ≤ e.session → IsLeastFrom given done (Some least) → IsLeastFrom given (done ++ e ∷ []) (Some least)
  least_same least le h = (h.0, calls_more least done e h.1, λ number from less. calls_kept number done e (λ is. omega (arith, le, less, is)) ∙ h.2 number from less)

  pub least_new : (least : ℕ) → given ≤ e.session → e.session < least → IsLeastFrom given done (Some least) → IsLeastFrom given (done ++ e ∷ []) (Some e.session)
  least_new least from lt h = (from, calls_some e.session done e refl, λ number from' less. calls_kept number done e (λ is. omega (arith, less, is)) ∙ h.2 number from' (omega (arith, lt, less)))

-- a number that was not given out has the empty list
pub own_beyond : (given : ℕ) (logs : List Own) → All (λ o. o.number < given) logs → (number : ℕ) → given ≤ number → own_of number logs ≡ []
own_beyond given [] below number from = refl
own_beyond given (o ∷ logs) below number from =
    let lt : o.number < given = All-head (λ o. o.number < given) o logs below in
    let other : (o.number == number) ≡ false = grind (arith, nat_tests, lt, from) in
    rw other (own_beyond given logs (All-tail (λ o. o.number < given) o logs below) number from)

-- the first entry of a session that has one, beside nothing
pub part_first : (xs ys : List Entry) → xs ≢ [] → ys ≡ [] → PartAt xs ys 0
part_first [] ys some none = absurd (some refl)
part_first (x ∷ xs) ys some none = rw none (record { within = (omega arith, omega arith); before = refl; here = λ is. cc })

-- what holds of all, holds of the first and of the rest
pub all_rest : {X : Type 0} (P : X → Type 0) (xs rest : List X) (x : X) → xs ≡ x ∷ rest → All P xs → All P rest
all_rest P xs rest x is h = All-tail P x rest (subst (All P) is h)

pub all_with : {X : Type 0} (P : X → Type 0) (xs rest : List X) (x : X) → xs ≡ x ∷ rest → P x → All P rest → All P xs
all_with P xs rest x is here h = subst (All P) (sym is) (All-cons P x rest here h)

-- below the next number
pub below_next : (P : ℕ → Type 0) (n : ℕ) → ((k : ℕ) → k < n → P k) → P n → (k : ℕ) → k < n + 1 → P k
below_next P n before here k lt = go (k == n) refl
  where
    go : (b : Bool) → (k == n) ≡ b → P k
    go true h = let same : n ≡ k = grind (arith, nat_tests) in subst P same here
    go false h = before k (grind (arith, nat_tests))

-- an entry of the session comes first
pub calls_own : (session : ℕ) (e : Entry) (es : List Entry) → e.session ≡ session → calls_of session (e ∷ es) ≡ e ∷ calls_of session es
calls_own session e es own = let test : (e.session == session) ≡ true = grind (arith, nat_tests) in rw test refl

pub push_front : (front rest : List Entry) (e : Entry) → front ++ e ∷ rest ≡ (front ++ e ∷ []) ++ rest
push_front [] rest e = refl
push_front (x ∷ front) rest e = ap (λ xs. x ∷ xs) (push_front front rest e)

pub front_length : (own front rest : List Entry) → own ≡ front ++ rest → length own - length rest ≡ length front
front_length own front rest is = omega (arith, ap length is, length-append front rest)

pub no_calls : (session : ℕ) (es : List Entry) → length es ≡ 0 → calls_of session es ≡ []
no_calls session [] none = refl
no_calls session (e ∷ es) none = absurd (omega (arith, none))

pub none_here : (none rest : List Entry) → none ≡ [] → false ≡ (length rest == 0) → slice_get none 0 ≢ slice_get rest 0
none_here [] [] is some = absurd (false≢true some)
none_here [] (x ∷ rest) is some = λ h. cc
none_here (e ∷ none) rest is some = absurd cc

-- A number is given out or not.
pub agree_from : (given limit : ℕ) (transcript : List Entry) (logs : List Own) → All (λ o. o.number < given) logs → given ≤ limit → ((n : ℕ) → n < limit → calls_of n transcript ≡ own_of n logs)
    → (n : ℕ) → (given ≤ n → calls_of n transcript ≡ []) → calls_of n transcript ≡ own_of n logs
agree_from given limit transcript logs below le before n beyond = go (ltb n limit) refl
  where
    go : (b : Bool) → ltb n limit ≡ b → calls_of n transcript ≡ own_of n logs
    go true h = before n (grind (arith, nat_tests))
    go false h =
        let from : given ≤ n = grind (arith, nat_tests, le) in
        beyond from ∙ sym (own_beyond given logs below n from)

-- why a manager does not close, by the fault of the audit
pub cannot_close : (configs : List CacheConfig) (given : ℕ) (logs : List Own) (t : History) (fault : CloseFault) → IsLegal t → BeginsWith configs t → IsAuditFault given logs t.entries fault → IsCloseRefusal configs logs fault
cannot_close configs given logs t Missing legal begins h = inl refl
cannot_close configs given logs t StillOpen legal begins h = inr (record { given = given; transcript = t; legal = legal; begins = begins; fails = h })
cannot_close configs given logs t (Differs session place) legal begins h = inr (record { given = given; transcript = t; legal = legal; begins = begins; fails = h })
cannot_close configs given logs t OutOfMemory legal begins h = absurd h

pub fault_weaker : {T : Type 0} (P Q : CloseFault → Type 0) (r : Result T CloseFault) → ((fault : CloseFault) → P fault → Q fault) → IfErr r P → IfErr r Q
fault_weaker P Q (Ok x) weaker h = h
fault_weaker P Q (Err fault) weaker h = weaker fault h

-- One walk over a transcript, beside what is left of each session's list.
use Rattle.std.proofs.Common.{◌≡◌, ◌≢◌, ℕ, zero, suc, ◌+◌, ◌<◌, ◌≤◌, Bool, true, false, List, [], ◌∷◌, map, length, get_or, set, refl, sym, ◌∙◌, ap, subst, arith, Bor}
use Rattle.std.specs.Prelude.{◌==◌, ltb}
use Rattle.std.specs.List.{All}
use Rattle.std.proofs.lemmas.Bool.Decides.{nat_tests}
use Rattle.std.proofs.lemmas.List.{get_or-set_same, get_or-set_other, get_or_past, map-set, length-map}
use Rattle.jc_model.specs.declared.event.Entry.{Entry}
use Rattle.jc_locked.specs.Sessions.{Own}
use Rattle.jc_locked.specs.Accounts.{calls_of, own_of, AllAgree}
use Rattle.jc_locked.proofs.Comparing.{calls_own, no_calls, own_beyond, below_next}

-- what is left of a number's list; of one behind the last there is nothing
abbrev pub rest_of : ℕ → List (Bor (List Entry)) → List Entry
rest_of number rests = get_or (map (λ (r : Bor (List Entry)). r.now) rests) number []

rest_past : (number : ℕ) (rests : List (Bor (List Entry))) → length rests ≤ number → rest_of number rests ≡ []
rest_past number rests le =
    get_or_past (map (λ (r : Bor (List Entry)). r.now) rests) number [] (omega (arith, le, length-map rests (λ (r : Bor (List Entry)). r.now)))

-- what is read there
pub rest_read : (number : ℕ) (rests : List (Bor (List Entry))) (read : Bor (List Entry)) → number < length rests → rest_of number rests ≡ (get_or rests number read).now
rest_read zero (r ∷ rests) read lt = refl
rest_read (suc number) (r ∷ rests) read lt = rest_read number rests read (omega (arith, lt))
rest_read number [] read lt = absurd (omega (arith, lt))

-- of these numbers nothing is taken yet
abbrev pub AreWhole : ℕ → List Own → List (Bor (List Entry)) → Type 0
AreWhole limit logs rests = (number : ℕ) → number < limit → rest_of number rests ≡ own_of number logs

-- a number whose entries left are what is left of its list, has the list
abbrev pub AgreeBy : List Entry → List Own → List Entry → List (Bor (List Entry)) → Type 0
AgreeBy transcript logs left rests = (number : ℕ) → calls_of number left ≡ rest_of number rests → calls_of number transcript ≡ own_of number logs

module _ (rests : List (Bor (List Entry))) (session : ℕ) (rest : Bor (List Entry)) where
  rest_here : session < length rests → rest_of session (set rests session rest) ≡ rest.now
  rest_here lt = rw (map-set (λ (r : Bor (List Entry)). r.now) rests session rest) (get_or-set_same (map (λ (r : Bor (List Entry)). r.now) rests) session rest.now [] (omega (arith, lt, length-map rests (λ (r : Bor (List Entry)). r.now))))

  rest_there : (number : ℕ) → number ≢ session → rest_of number (set rests session rest) ≡ rest_of number rests
  rest_there number other = rw (map-set (λ (r : Bor (List Entry)). r.now) rests session rest) (get_or-set_other (map (λ (r : Bor (List Entry)). r.now) rests) session number rest.now [] other)

  -- one more list is put in its place
  pub whole_next : (logs : List Own) → session < length rests → rest.now ≡ own_of session logs → AreWhole session logs rests → AreWhole (session + 1) logs (set rests session rest)
  whole_next logs lt is whole = below_next (λ n. rest_of n (set rests session rest) ≡ own_of n logs) session
      (λ n less. rest_there n (λ same. omega (arith, less, same)) ∙ whole n less) (rest_here lt ∙ is)

  -- an entry is the first of what is left of its session's list
  pub agree_next : (transcript later : List Entry) (logs : List Own) (e : Entry) → session < length rests → e.session ≡ session → rest_of session rests ≡ e ∷ rest.now
      → AgreeBy transcript logs (e ∷ later) rests → AgreeBy transcript logs later (set rests session rest)
  agree_next transcript later logs e lt own is agree number left = agree number (go (number == session) refl)
    where
      go : (b : Bool) → (number == session) ≡ b → calls_of number (e ∷ later) ≡ rest_of number rests
      go true h =
          let same : number ≡ session = grind (arith, nat_tests) in
          let here : calls_of session later ≡ rest.now = subst (λ n. calls_of n later ≡ rest_of n (set rests session rest)) same left ∙ rest_here lt in
          subst (λ n. calls_of n (e ∷ later) ≡ rest_of n rests) (sym same) (calls_own session e later own ∙ ap (λ (es : List Entry). e ∷ es) here ∙ sym is)
      go false h =
          let other : number ≢ session = grind (arith, nat_tests) in
          let test : (e.session == number) ≡ false = grind (arith, nat_tests, own) in
          rw test (left ∙ rest_there number other)

-- before the first entry, all lists are whole
pub agree_whole : (transcript : List Entry) (given limit : ℕ) (logs : List Own) (rests : List (Bor (List Entry))) → given ≤ limit → length rests ≤ limit
    → All (λ o. o.number < given) logs → AreWhole limit logs rests → AgreeBy transcript logs transcript rests
agree_whole transcript given limit logs rests le within below whole number left = left ∙ go (ltb number limit) refl
  where
    go : (b : Bool) → ltb number limit ≡ b → rest_of number rests ≡ own_of number logs
    go true h = whole number (grind (arith, nat_tests))
    go false h =
        let from : limit ≤ number = grind (arith, nat_tests) in
        rest_past number rests (omega (arith, from, within)) ∙ sym (own_beyond given logs below number (omega (arith, le, from)))

-- and behind the last, nothing is left of any
pub agree_all : (transcript left : List Entry) (logs : List Own) (rests : List (Bor (List Entry))) → length left ≡ 0 → ((number : ℕ) → number < length rests → rest_of number rests ≡ [])
    → AgreeBy transcript logs left rests → AllAgree transcript logs
agree_all transcript left logs rests none empty agree number = agree number (no_calls number left none ∙ sym (go (ltb number (length rests)) refl))
  where
    go : (b : Bool) → ltb number (length rests) ≡ b → rest_of number rests ≡ []
    go true h = empty number (grind (arith, nat_tests))
    go false h = rest_past number rests (grind (arith, nat_tests))

-- Reading keys line by line, as a loop does.
use Rattle.std.proofs.Common.{◌≡◌, ℕ, ◌+◌, ◌==◌, Bool, true, false, if◌then◌else◌, List, [], ◌∷◌, ◌++◌, length, Option, Some, None, Result, Ok, Err, refl, sym, ap, ◌∙◌, append_assoc, append-nil, ◌<◌, ◌≤◌, map, drop, get_or, drop_of_length-le, Bor}
use Rattle.std.proofs.lemmas.List.{drop_more}
use Rattle.jc_replay.specs.declared.fault.ReplayFault.{ReplayFault}
use Rattle.jc_replay.specs.declared.fault.ReplayFault.TheVariants.{BadKey}
use Rattle.jc_replay.specs.Trace.{is_key, key_or_none, with_front, keys_from}

regroup : (front : List (List ℕ)) (key : List ℕ) (read : Result (List (List ℕ)) ReplayFault) → with_front front (with_front (key ∷ []) read) ≡ with_front (front ++ key ∷ []) read
regroup front key (Ok keys) = ap (λ (ks : List (List ℕ)). Ok ks) (simp append_assoc)
regroup front key (Err fault) = refl

pub skips : (n : ℕ) (front : List (List ℕ)) (line : List ℕ) (rest : List (List ℕ)) (total : Result (List (List ℕ)) ReplayFault) → (length line == 0) ≡ true
    → with_front front (keys_from n (line ∷ rest)) ≡ total → with_front front (keys_from (n + 1) rest) ≡ total
unfolding keys_from
skips n front line rest total empty so_far = rw empty at so_far

by_key : (line key : List ℕ) (b : Bool) → ◌≡◌ {A = Option (List ℕ)} (if b then Some line else None) (Some key) → (b ≡ true) × (key ≡ line)
by_key line key true is = (refl, cc)
by_key line key false is = absurd cc

by_none : (line : List ℕ) (b : Bool) → ◌≡◌ {A = Option (List ℕ)} (if b then Some line else None) None → b ≡ false
by_none line true is = absurd cc
by_none line false is = refl

pub takes : (n : ℕ) (front : List (List ℕ)) (line key : List ℕ) (rest : List (List ℕ)) (total : Result (List (List ℕ)) ReplayFault) → (length line == 0) ≡ false → key_or_none line ≡ Some key
    → with_front front (keys_from n (line ∷ rest)) ≡ total → with_front (front ++ key ∷ []) (keys_from (n + 1) rest) ≡ total
unfolding keys_from
takes n front line key rest total some is so_far =
    let p = by_key line key (is_key line) is in
    let one : with_front front (keys_from n (line ∷ rest)) ≡ with_front (front ++ line ∷ []) (keys_from (n + 1) rest) = rw (some, p.0) (regroup front line (keys_from (n + 1) rest)) in
    rw p.1 (sym one ∙ so_far)

pub stops : (n : ℕ) (front : List (List ℕ)) (line : List ℕ) (rest : List (List ℕ)) (total : Result (List (List ℕ)) ReplayFault) → (length line == 0) ≡ false → key_or_none line ≡ None
    → with_front front (keys_from n (line ∷ rest)) ≡ total → total ≡ Err (BadKey n)
unfolding keys_from
stops n front line rest total some is so_far =
    let b = by_none line (is_key line) is in
    let one : with_front front (keys_from n (line ∷ rest)) ≡ Err (BadKey n) = rw (some, b) refl in
    sym so_far ∙ one

pub is_done : (n : ℕ) (front : List (List ℕ)) (total : Result (List (List ℕ)) ReplayFault) → with_front front (keys_from n []) ≡ total → total ≡ Ok front
unfolding keys_from
is_done n front total so_far = sym so_far ∙ ap (λ (ks : List (List ℕ)). Ok ks) (append-nil front)

abbrev pub Lines : Type 0
Lines = List (Bor (List ℕ))

-- what lines are lent
abbrev pub texts : Lines → List (List ℕ)
texts lines = map (λ line. line.now) lines

pub next_line : (lines : Lines) (i : ℕ) (d : Bor (List ℕ)) → i < length lines → texts (drop i lines) ≡ (get_or lines i d).now ∷ texts (drop (i + 1) lines)
next_line lines i d below = ap texts (drop_more lines i d below)

pub no_line : (lines : Lines) (i : ℕ) → length lines ≤ i → texts (drop i lines) ≡ []
no_line lines i past = ap texts (drop_of_length-le lines past)

-- Counting the hits of keys one by one.
use Rattle.std.proofs.Common.{◌≡◌, ℕ, ◌+◌, ◌<◌, ◌≤◌, Bool, true, false, if◌then◌else◌, List, length, drop, get_or, drop_of_length-le, ◌∷◌, ap, sym, ◌∙◌, arith, refl}
use Rattle.std.proofs.lemmas.List.{drop_more}
use Rattle.std.specs.Int.{from_bool}
use Rattle.jc_model.specs.Runs.{Lives}
use Rattle.jc_replay.specs.Hits.{hits, hits_from, lives_after_key}

one_if : (b : Bool) → (if b then 1 else 0) ≡ from_bool b
one_if true = refl
one_if false = refl

first : (lives : Lives) (key : List ℕ) (keys : List (List ℕ)) (found : Bool) → found ≡ hits lives key → hits_from lives (key ∷ keys) ≡ from_bool found + hits_from (lives_after_key lives key) keys
unfolding hits_from
first lives key keys found is =
    let one : (if hits lives key then 1 else 0) ≡ from_bool found = ap (λ (b : Bool). if b then 1 else 0) (sym is) ∙ one_if found in
    ap (λ (n : ℕ). n + hits_from (lives_after_key lives key) keys) one

pub at_most_one : (b : Bool) → from_bool b ≤ 1
at_most_one true = omega arith
at_most_one false = omega arith

pub goes_on : (lives lives' : Lives) (keys : List (List ℕ)) (i so_far more total : ℕ) (key : List ℕ) (found : Bool) → i < length keys → key ≡ get_or keys i key → found ≡ hits lives key → lives' ≡ lives_after_key lives key → more ≡ from_bool found
    → so_far + hits_from lives (drop i keys) ≡ total → so_far + more + hits_from lives' (drop (i + 1) keys) ≡ total
goes_on lives lives' keys i so_far more total key found below here is moved counts counted =
    let cut : drop i keys ≡ key ∷ drop (i + 1) keys = drop_more keys i key below ∙ ap (λ (k : List ℕ). k ∷ drop (i + 1) keys) (sym here) in
    let next = ap (hits_from lives) cut ∙ first lives key (drop (i + 1) keys) found is in
    let rest : hits_from lives' (drop (i + 1) keys) ≡ hits_from (lives_after_key lives key) (drop (i + 1) keys) = ap (λ (now : Lives). hits_from now (drop (i + 1) keys)) moved in
    omega (arith, counted, next, rest, counts)

pub is_done : (lives : Lives) (keys : List (List ℕ)) (i so_far total : ℕ) → length keys ≤ i → so_far + hits_from lives (drop i keys) ≡ total → so_far ≡ total
unfolding hits_from
is_done lives keys i so_far total past counted =
    let none = drop_of_length-le keys past in
    let all = rw none at counted in
    omega (arith, all)

-- Reading lines one after the other, as a loop does.
use Rattle.std.proofs.Common.{◌≡◌, ℕ, ◌+◌, ◌<◌, ◌≤◌, List, [], ◌∷◌, ◌++◌, length, Bool, true, false, Option, Some, None, Result, Ok, Err, refl, sym, ap, ◌∙◌, append_assoc, arith}
use Rattle.std.specs.Borrow.{Bor}
use Rattle.std.proofs.lemmas.List.{append-nil}
use Rattle.std.specs.List.{slice_split}
use Rattle.std.proofs.Common.{le-ltb}
use Rattle.std.specs.Prelude.{IfSome}
use Rattle.jc_model.specs.declared.config.CacheConfig.{CacheConfig}
use Rattle.jc_model.specs.Limits.{text_bytes}
use Rattle.jc_model.specs.Runs.{Lives, opened_from}
use Rattle.jc_config.specs.FirstFault.{◌>>=◌, FailsUnless}
use Rattle.jc_script.specs.Live.{after_line}
use Rattle.jc_script.specs.declared.line.Line.{Line}
use Rattle.jc_script.specs.declared.fault.ScriptFault.{ScriptFault}
use Rattle.jc_script.specs.Faults.{script_wants_memory}
use Rattle.jc_script.specs.Script.{piece_of, lines_from, is_blank, is_feed, lines}

-- what was read before, and what is still read
abbrev pub with_front : List Line → Result (List Line) ScriptFault → Result (List Line) ScriptFault
with_front front read = read >>= λ xs. Ok (front ++ xs)

-- an upper bound on the number of lines left
abbrev pub room : Option (Bor (List ℕ)) → ℕ
room None = 0
room (Some rest) = length rest.now + 1

regroup : (front : List Line) (x : Line) (read : Result (List Line) ScriptFault) → with_front front (read >>= λ xs. Ok (x ∷ xs)) ≡ with_front (front ++ x ∷ []) read
regroup front x (Ok xs) = ap (λ (ys : List Line). Ok ys) (simp append_assoc)
regroup front x (Err f) = refl

pub passes : (lives : Lives) (front : List Line) (n : ℕ) (pieces rest : List (List ℕ)) (piece : List ℕ) (total : Result (List Line) ScriptFault) → pieces ≡ piece ∷ rest → is_blank piece ≡ true
    → with_front front (lines_from lives n pieces) ≡ total → with_front front (lines_from lives (n + 1) rest) ≡ total
unfolding lines_from
passes lives front n pieces rest piece total cut blank so_far = rw (cut, blank) at so_far

pub goes_on : (lives : Lives) (front : List Line) (n : ℕ) (pieces rest : List (List ℕ)) (piece : List ℕ) (x : Line) (total : Result (List Line) ScriptFault) → pieces ≡ piece ∷ rest → is_blank piece ≡ false
    → piece_of lives n piece ≡ Ok x → with_front front (lines_from lives n pieces) ≡ total → with_front (front ++ x ∷ []) (lines_from (after_line lives x) (n + 1) rest) ≡ total
unfolding lines_from
goes_on lives front n pieces rest piece x total cut full line so_far =
    let one : with_front front (lines_from lives n pieces) ≡ with_front (front ++ x ∷ []) (lines_from (after_line lives x) (n + 1) rest) = rw (cut, full, line) (regroup front x (lines_from (after_line lives x) (n + 1) rest)) in
    sym one ∙ so_far

stops : (lives : Lives) (front : List Line) (n : ℕ) (pieces rest : List (List ℕ)) (piece : List ℕ) (e : ScriptFault) (total : Result (List Line) ScriptFault) → pieces ≡ piece ∷ rest → is_blank piece ≡ false
    → with_front front (lines_from lives n pieces) ≡ total → piece_of lives n piece ≡ Err e → total ≡ Err e
unfolding lines_from
stops lives front n pieces rest piece e total cut full so_far fault =
    let one : with_front front (lines_from lives n pieces) ≡ Err e = rw (cut, full, fault) refl in
    sym so_far ∙ one

-- a fault of a step that is a fault of the whole
fails_by : {A B : Type 0} (b : Bool) (e : ScriptFault) (step : Result A ScriptFault) (total : Result B ScriptFault) → (step ≡ Err e → total ≡ Err e) → FailsUnless b e step → FailsUnless b e total
fails_by true e step total up h = tt
fails_by false e step total up h = up h

pub ends : (e : ScriptFault) (lives : Lives) (front : List Line) (n : ℕ) (pieces rest : List (List ℕ)) (piece : List ℕ) (total : Result (List Line) ScriptFault) → pieces ≡ piece ∷ rest → is_blank piece ≡ false
    → with_front front (lines_from lives n pieces) ≡ total → FailsUnless (script_wants_memory e) e (piece_of lives n piece) → FailsUnless (script_wants_memory e) e total
ends e lives front n pieces rest piece total cut full so_far h = fails_by (script_wants_memory e) e (piece_of lives n piece) total (stops lives front n pieces rest piece e total cut full so_far) h

pub fewer : (o : Option (Bor (List ℕ))) (most : ℕ) → IfSome o (λ r. length r.now < most) → room o ≤ most
fewer None most h = omega arith
fewer (Some r) most h = omega (arith, h)

pub is_done : (lives : Lives) (front : List Line) (n : ℕ) (total : Result (List Line) ScriptFault) → with_front front (lines_from lives n []) ≡ total → total ≡ Ok front
unfolding lines_from
is_done lives front n total so_far = sym so_far ∙ ap (λ (xs : List Line). Ok xs) (append-nil front)

pub all_from : (caches : List CacheConfig) (bytes : List ℕ) → length bytes ≤ text_bytes → lines_from (opened_from 0 caches) 1 (slice_split is_feed bytes) ≡ lines caches bytes
unfolding lines
all_from caches bytes le = rw (le-ltb text_bytes (length bytes) le) refl

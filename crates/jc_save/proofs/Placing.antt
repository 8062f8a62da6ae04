-- Bytes that are written one after the other into a lent place.
use Rattle.std.proofs.Common.{◌≡◌, ℕ, ◌+◌, ◌<◌, ◌≤◌, List, ◌++◌, length, take, drop, refl, sym, ap, ◌∙◌, append_assoc, append-nil, arith, inl, inr}
use Rattle.std.proofs.Math.Seq.{take-append-add, take-append_seam}
use Rattle.std.proofs.lemmas.Bool.{cases_lt}
use Rattle.std.proofs.lemmas.List.{take_at, take_all, drop_all, take-append-drop, take-append-le, length-append, length-take, length-take-le, length-drop}
use Rattle.std.proofs.lemmas.Slice.{take-put_mid, drop-put_mid, drop-append-drop}
use Rattle.jc_save.specs.Placing.{put_at}
use borrow.Rule.Slice.PartMut.{put_mid}

-- where there is room for all bytes
pub put_fits : (at k : ℕ) (out bytes : List ℕ) → at + length bytes ≤ length out → k ≡ length bytes → put_mid at k out bytes ≡ put_at at bytes out
unfolding put_at
put_fits at k out bytes room same =
    let here : at ≤ length out = omega arith in
    let front : length (take at out ++ bytes) ≤ length out = omega (arith, length-append (take at out) bytes, length-take-le at out here) in
    sym (take-append-drop (at + length bytes) (put_mid at k out bytes))
    ∙ rw (take-put_mid at k out bytes (at + length bytes) refl here, drop-put_mid at k out bytes (at + length bytes) (omega arith) here (sym same), take_all (length out) (take at out ++ bytes) front) refl

-- where there is room for the first k
pub put_cut : (at k : ℕ) (out bytes : List ℕ) → at + k ≡ length out → k ≤ length bytes → put_mid at k out (take k bytes) ≡ put_at at bytes out
unfolding put_at
put_cut at k out bytes room few =
    let here : at ≤ length out = omega arith in
    let first : length (take k bytes) ≡ k = length-take-le k bytes few in
    let front : length (take at out) ≡ at = length-take-le at out here in
    let cut : take (length out) (take at out ++ bytes) ≡ take at out ++ take k bytes =
    ap (λ (n : ℕ). take n (take at out ++ bytes)) (omega (arith, front)) ∙ take-append-add (take at out) bytes k in
    sym (take-append-drop (at + k) (put_mid at k out (take k bytes)))
    ∙ rw (take-put_mid at k out (take k bytes) (at + k) (omega (arith, first)) here, drop-put_mid at k out (take k bytes) (at + k) (omega arith) here first, drop_all (at + k) out (omega arith), drop_all (at + length bytes) out (omega arith), cut) refl

-- where there is room for none
pub put_past : (at : ℕ) (out bytes : List ℕ) → length out ≤ at → out ≡ put_at at bytes out
unfolding put_at
put_past at out bytes none =
    sym (rw (take_all at out none, take-append_seam out bytes, drop_all (at + length bytes) out (omega arith)) (append-nil out))

fits_then : (at : ℕ) (a b out : List ℕ) → at + length a ≤ length out → put_at (at + length a) b (put_at at a out) ≡ put_at at (a ++ b) out
unfolding put_at
fits_then at a b out room =
    let here : length (take at out) ≡ at = length-take-le at out (omega arith) in
    let front : length (take at out ++ a) ≡ at + length a = omega (arith, length-append (take at out) a, here) in
    let left : List ℕ = drop (at + length a) out in
    let first : take (length out) (take at out ++ a) ≡ take at out ++ a = take_all (length out) (take at out ++ a) (omega (arith, front)) in
    let whole : length ((take at out ++ a) ++ left) ≡ length out = omega (arith, front, length-append (take at out ++ a) left, length-drop (at + length a) out) in
    let behind : drop (at + length a + length b) ((take at out ++ a) ++ left) ≡ drop (at + length (a ++ b)) out =
    drop-append-drop (at + length a) out (take at out ++ a) (at + length a + length b) (omega arith) front ∙ ap (λ (n : ℕ). drop n out) (omega (arith, length-append a b)) in
    rw (first, whole, take_at (take at out ++ a) left (at + length a) front, behind, append_assoc (take at out) a b) refl

cut_then : (at : ℕ) (a b out : List ℕ) → length out < at + length a → put_at (at + length a) b (put_at at a out) ≡ put_at at (a ++ b) out
unfolding put_at
cut_then at a b out over =
    let front : List ℕ = take at out ++ a in
    let long : length out ≤ length front = omega (arith, length-append (take at out) a, length-take at out) in
    let there : List ℕ = take (length out) front in
    let size : length there ≡ length out = length-take-le (length out) front long in
    let first : there ++ drop (at + length a) out ≡ there = rw (drop_all (at + length a) out (omega arith)) (append-nil there) in
    let second : take (length out) (take at out ++ (a ++ b)) ++ drop (at + length (a ++ b)) out ≡ there =
    rw (← append_assoc (take at out) a b, take-append-le (length out) front b long, drop_all (at + length (a ++ b)) out (omega (arith, length-append a b))) (append-nil there) in
    let third : take (length there) (take (at + length a) there ++ b) ++ drop (at + length a + length b) there ≡ there =
    rw (take_all (at + length a) there (omega (arith, size)), take-append_seam there b, drop_all (at + length a + length b) there (omega (arith, size))) (append-nil there) in
    rw first (third ∙ sym second)

-- bytes, and then more behind them, are both
pub put_then : (at : ℕ) (a b out : List ℕ) → put_at (at + length a) b (put_at at a out) ≡ put_at at (a ++ b) out
put_then at a b out =
    elim (cases_lt (length out) (at + length a)) [
      | inl over ↦ cut_then at a b out over
      | inr room ↦ fits_then at a b out room
    ]

pub put_after : (a b out : List ℕ) → put_at (length a) b (put_at 0 a out) ≡ put_at 0 (a ++ b) out
put_after a b out = ap (λ (n : ℕ). put_at n b (put_at 0 a out)) (omega arith) ∙ put_then 0 a b out

-- all bytes into as much room
pub put_whole : (bytes out : List ℕ) → length out ≡ length bytes → put_at 0 bytes out ≡ bytes
unfolding put_at
put_whole bytes out same =
    rw (same, take_all (length bytes) bytes (omega arith), drop_all (0 + length bytes) out (omega (arith, same))) (append-nil bytes)

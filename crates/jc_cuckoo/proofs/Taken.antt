-- The rows of the first cells, one cell after another.
use Rattle.std.proofs.Common.{◌≡◌, ℕ, ◌+◌, ◌<◌, ◌≤◌, List, [], ◌∷◌, ◌++◌, length, take, Option, Some, None, refl, sym, ap, ◌∙◌, subst, arith}
use Rattle.std.specs.FinMap as map
use Rattle.std.proofs.lemmas.List.{take_more, take_all, get_or-take, get_or_past, length-take-le}
use Rattle.jc_rows.specs.Rows.{RowMap}
use Rattle.jc_cuckoo.specs.declared.held.Held.{Held}
use Rattle.jc_cuckoo.specs.Cells.{held_place, held_row, cell, rows_in}
use Rattle.jc_cuckoo.proofs.Cells.{IsOnce, get_none, rows_changed}
use Rattle.jc_cuckoo.proofs.Sound.{changed_push}
use Rattle.jc_cuckoo.proofs.Changes.{inside}

-- a cell of the first ones is that cell
taken_is : (cs : List (Option Held)) (m i : ℕ) (h : Held) → m ≤ length cs → cell (take m cs) i ≡ Some h → (i < m) × (cell cs i ≡ Some h)
taken_is cs m i h few is = let below : i < m = subst (λ (k : ℕ). i < k) (length-take-le m cs few) (inside (take m cs) i h is) in (below, sym (get_or-take m cs i None below) ∙ is)

pub once_taken : (cs : List (Option Held)) (m : ℕ) → m ≤ length cs → IsOnce cs → IsOnce (take m cs)
once_taken cs m few once i j h k ih jk same = once i j h k (taken_is cs m i h few ih).1 (taken_is cs m j k few jk).1 same

pub taken_absent : (cs : List (Option Held)) (m : ℕ) (h : Held) → m < length cs → IsOnce cs → cell cs m ≡ Some h → map.get (rows_in (take m cs)) (held_place h) ≡ None
taken_absent cs m h less once is = get_none (take m cs) (held_place h) (λ i k ik same. (let t = taken_is cs m i k (omega arith) ik in let low = t.0 in let e : i ≡ m = once i m k h t.1 is same in omega arith))

rows_none_more : (cs : List (Option Held)) → rows_in (cs ++ None ∷ []) ≡ rows_in cs
unfolding rows_in
rows_none_more [] = refl
rows_none_more (None ∷ cs) = rows_none_more cs
rows_none_more (Some h ∷ cs) = ap (λ (m : RowMap). map.insert m (held_place h) (held_row h)) (rows_none_more cs)

pub taken_none : (cs : List (Option Held)) (m : ℕ) → m < length cs → cell cs m ≡ None → rows_in (take (m + 1) cs) ≡ rows_in (take m cs)
taken_none cs m less is = ap rows_in (take_more cs m None less ∙ ap (λ (c : Option Held). take m cs ++ c ∷ []) is) ∙ rows_none_more (take m cs)

pub taken_some : (cs : List (Option Held)) (m : ℕ) (h : Held) → m < length cs → IsOnce cs → cell cs m ≡ Some h → rows_in (take (m + 1) cs) ≡ map.insert (rows_in (take m cs)) (held_place h) (held_row h)
taken_some cs m h less once is =
    let more : take (m + 1) cs ≡ take m cs ++ Some h ∷ [] = take_more cs m None less ∙ ap (λ (c : Option Held). take m cs ++ c ∷ []) is in
    ap rows_in more
    ∙ rows_changed (take m cs) (take m cs ++ Some h ∷ []) (length (take m cs)) h (once_taken cs m (omega arith) once)
    (subst IsOnce more (once_taken cs (m + 1) (omega arith) once)) (changed_push (take m cs) (Some h))
    (λ k ik. (let e : cell (take m cs) (length (take m cs)) ≡ None = get_or_past (take m cs) (length (take m cs)) None (omega arith) in absurd cc))

pub taken_all : (cs : List (Option Held)) (m : ℕ) → length cs ≤ m → rows_in (take m cs) ≡ rows_in cs
taken_all cs m all = ap rows_in (take_all m cs all)

-- The first piece of bytes that are cut at each line feed.
use Rattle.std.proofs.Common.{◌≡◌, ℕ, zero, suc, ◌+◌, ◌<◌, List, [], ◌∷◌, length, take, drop, get_or, refl, ap, ◌∙◌, arith, eq-eqb, add-one}
use Rattle.std.specs.List.{slice_split, onto_first}
use Rattle.std.proofs.lemmas.Bool.{ne_eqb}
use Rattle.std.proofs.lemmas.List.Splits.{slice_split-cons_yes, slice_split-cons_no}
use Rattle.jc_script.specs.Script.{is_feed}

first_piece : (bs : List ℕ) (i : ℕ) → i < length bs → ((k : ℕ) → k < i → get_or bs k 0 ≡ 10 → ⊥) → get_or bs i 0 ≡ 10 → slice_split is_feed bs ≡ take i bs ∷ slice_split is_feed (drop (suc i) bs)
first_piece [] i lt before here = absurd (omega (arith, lt))
first_piece (b ∷ bs) zero lt before here = slice_split-cons_yes is_feed b bs (eq-eqb b 10 here)
first_piece (b ∷ bs) (suc i) lt before here =
    let rest : slice_split is_feed bs ≡ take i bs ∷ slice_split is_feed (drop (suc i) bs) = first_piece bs i (omega (arith, lt)) (λ k h. before (suc k) (omega (arith, h))) here in
    slice_split-cons_no is_feed b bs (ne_eqb b 10 (before 0 (omega arith))) ∙ ap (onto_first b) rest

pub cut_here : (bs : List ℕ) (i : ℕ) → i < length bs → ((k : ℕ) → k < i → get_or bs k 0 ≡ 10 → ⊥) → get_or bs i 0 ≡ 10 → slice_split is_feed bs ≡ take i bs ∷ slice_split is_feed (drop (i + 1) bs)
cut_here bs i lt before here = rw (add-one i) (first_piece bs i lt before here)

pub uncut : (bs : List ℕ) → ((k : ℕ) → k < length bs → get_or bs k 0 ≡ 10 → ⊥) → slice_split is_feed bs ≡ bs ∷ []
uncut [] before = refl
uncut (b ∷ bs) before =
    slice_split-cons_no is_feed b bs (ne_eqb b 10 (before 0 (omega arith))) ∙ ap (onto_first b) (uncut bs (λ k h. before (suc k) (omega (arith, h))))

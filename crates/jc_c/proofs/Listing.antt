-- A list that is read item by item: what was read, and what is left, is all.
use Rattle.std.proofs.Common.{◌≡◌, ℕ, ltb, true, false, Result, Ok, Err, List, [], ◌∷◌, ◌++◌, length, drop, refl, sym, ap, ◌∙◌}
use Rattle.std.proofs.lemmas.List.{append-nil, append_assoc}
use Rattle.jc_c.specs.declared.status.Fault.{Fault}
use Rattle.jc_c.specs.declared.status.Fault.TheVariants.{BadLengths}
use Rattle.jc_c.specs.Reading.{read_then, with_item_before, list_in}

abbrev pub prefixed : {A : Type 0} → List A → Result (List A) Fault → Result (List A) Fault
prefixed xs (Ok ys) = Ok (xs ++ ys)
prefixed xs (Err fault) = Err fault

pub none_yet : {A : Type 0} (r : Result (List A) Fault) → r ≡ prefixed [] r
none_yet (Ok ys) = refl
none_yet (Err fault) = refl

one_more : {A : Type 0} (xs : List A) (x : A) (r : Result (List A) Fault) → prefixed xs (with_item_before x r) ≡ prefixed (xs ++ x ∷ []) r
one_more xs x (Ok ys) = ap Ok (sym (append_assoc xs (x ∷ []) ys))
one_more xs x (Err fault) = refl

module _ {W A : Type 0} (width : W → ℕ) (item : W → List ℕ → Result A Fault) (xs : List A) (w : W) (lengths : List W) (left : List ℕ) where
  chosen : ltb (length left) (width w) ≡ false → list_in width item (w ∷ lengths) left ≡ read_then (item w left) (λ x. with_item_before x (list_in width item lengths (drop (width w) left)))
  chosen fits = rw fits refl

  pub goes_on : (x : A) → ltb (length left) (width w) ≡ false → item w left ≡ Ok x → prefixed xs (list_in width item (w ∷ lengths) left) ≡ prefixed (xs ++ x ∷ []) (list_in width item lengths (drop (width w) left))
  goes_on x fits is = ap (prefixed xs) (chosen fits ∙ ap (λ r. read_then r (λ y. with_item_before y (list_in width item lengths (drop (width w) left)))) is) ∙ one_more xs x _

  pub fails : (fault : Fault) → ltb (length left) (width w) ≡ false → item w left ≡ Err fault → prefixed xs (list_in width item (w ∷ lengths) left) ≡ Err fault
  fails fault fits is = ap (prefixed xs) (chosen fits ∙ ap (λ r. read_then r (λ y. with_item_before y (list_in width item lengths (drop (width w) left)))) is)

  pub too_short : ltb (length left) (width w) ≡ true → prefixed xs (list_in width item (w ∷ lengths) left) ≡ Err BadLengths
  too_short short = rw short refl

module _ {W A : Type 0} (width : W → ℕ) (item : W → List ℕ → Result A Fault) (xs : List A) where
  pub ends : prefixed xs (list_in width item [] []) ≡ Ok xs
  ends = ap Ok (append-nil xs)

  pub too_long : (left : List ℕ) → (length left ≡ 0 → ⊥) → prefixed xs (list_in width item [] left) ≡ Err BadLengths
  too_long [] long = absurd (long refl)
  too_long (b ∷ bytes) long = refl

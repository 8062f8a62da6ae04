-- Known bytes that are read or written in pieces.
use Rattle.std.proofs.Common.{◌≡◌, ◌<◌, ◌+◌, ℕ, List, [], ◌++◌, length, take, drop, Option, Some, None, refl, sym, ap, ◌∙◌, append_assoc, arith, length-append}
use Rattle.std.specs.Prelude.{IfSome}
use Rattle.std.proofs.lemmas.List.{append-nil, take-append-drop}
use Rattle.std.proofs.Math.Seq.{take-length}
use Rattle.std.specs.Io.KnownBytes.{Consumes, Appends}

pub reads_none : (a : Option (List ℕ)) → Consumes a a []
reads_none None = tt
reads_none (Some xs) = refl

pub reads_more : (a b c : Option (List ℕ)) (xs ys : List ℕ) → Consumes a b xs → Consumes b c ys → Consumes a c (xs ++ ys)
reads_more None b c xs ys h k = tt
reads_more (Some x) None c xs ys h k = absurd h
reads_more (Some x) (Some y) None xs ys h k = absurd k
reads_more (Some x) (Some y) (Some z) xs ys h k = h ∙ ap (λ w. xs ++ w) k ∙ sym (append_assoc xs ys z)

longer : (a c : Option (List ℕ)) (xs : List ℕ) (most : ℕ) → Consumes a c xs → most < length xs → IfSome a (λ zs. most < length zs)
longer None c xs most h lt = tt
longer (Some x) None xs most h lt = absurd h
longer (Some x) (Some z) xs most h lt =
    let e : length x ≡ length (xs ++ z) = ap length h in
    omega (arith, e, length-append xs z, lt)

pub too_long : (a b c : Option (List ℕ)) (xs ys : List ℕ) (most : ℕ) → Consumes a b xs → Consumes b c ys → most < length xs + length ys → IfSome a (λ zs. most < length zs)
too_long a b c xs ys most h k lt = longer a c (xs ++ ys) most (reads_more a b c xs ys h k) (omega (arith, length-append xs ys, lt))

pub writes_none : (a : Option (List ℕ)) → Appends a a []
writes_none None = tt
writes_none (Some xs) = sym (append-nil xs)

pub writes_more : (a b c : Option (List ℕ)) (xs ys : List ℕ) → Appends a b xs → Appends b c ys → Appends a c (xs ++ ys)
writes_more None b c xs ys h k = tt
writes_more (Some x) None c xs ys h k = absurd h
writes_more (Some x) (Some y) None xs ys h k = absurd k
writes_more (Some x) (Some y) (Some z) xs ys h k = k ∙ ap (λ w. w ++ ys) h ∙ append_assoc x xs ys

pub step_on : (a b c : Option (List ℕ)) (text front rest : List ℕ) (n m : ℕ) → text ≡ front ++ rest → m ≡ length (drop n rest) → Appends a b front → Appends b c (take n rest) → (x : List ℕ) × (text ≡ x ++ take m (drop n rest)) × Appends a c x
step_on a b c text front rest n m whole size h k =
    let all : take m (drop n rest) ≡ drop n rest = rw size (take-length (drop n rest)) in
    let back : (front ++ take n rest) ++ drop n rest ≡ front ++ rest = append_assoc front (take n rest) (drop n rest) ∙ ap (λ w. front ++ w) (take-append-drop n rest) in
    (front ++ take n rest, rw all (whole ∙ sym back), writes_more a b c front (take n rest) h k)

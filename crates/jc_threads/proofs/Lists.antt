-- Lists by their elements.
use Rattle.std.proofs.Common.{◌≡◌, ℕ, zero, suc, Bool, true, false, cond, ◌<◌, List, [], ◌∷◌, ◌++◌, length, map, Some, refl, sym, ◌∙◌, ap, subst, arith, append-nil, take, Result, Ok, Err, OnOk}
use Rattle.std.specs.Prelude.{slice_get, slice_set, ◌==◌}
use Rattle.std.specs.List.{All, filter, flat_map}
use Rattle.std.proofs.lemmas.List.Elements.{All-nil, All-head, All-tail, All-cons, All-append, filter-append}
use Rattle.std.proofs.Math.Seq.{take-append_seam}
use Rattle.std.proofs.lemmas.Bool.{false≢true}
use Rattle.std.proofs.lemmas.Bool.Decides.{nat_tests}

-- what is true of all elements is true of the one at a place, and the other way round
pub all_at : {X : Type 0} (P : X → Type 0) (xs : List X) (k : ℕ) (x : X) → All P xs → slice_get xs k ≡ Some x → P x
all_at P [] k x h is = absurd cc
all_at P (y ∷ xs) zero x h is = let same : y ≡ x = cc in subst P same (All-head P y xs h)
all_at P (y ∷ xs) (suc k) x h is = all_at P xs k x (All-tail P y xs h) is

pub all_from : {X : Type 0} (P : X → Type 0) (xs : List X) → ((k : ℕ) (x : X) → slice_get xs k ≡ Some x → P x) → All P xs
all_from P [] h = All-nil P
all_from P (x ∷ xs) h = All-cons P x xs (h 0 x refl) (all_from P xs (λ k y is. h (suc k) y is))

-- there is an element at each place below the length
pub some_at : {X : Type 0} (xs : List X) (k : ℕ) → k < length xs → (x : X) × (slice_get xs k ≡ Some x)
some_at [] k below = absurd (omega (arith, below))
some_at (x ∷ xs) zero below = (x, refl)
some_at (x ∷ xs) (suc k) below = some_at xs k (omega (arith, below))

-- the last element, and those before it
pub get_last : {X : Type 0} (xs : List X) (x : X) → slice_get (xs ++ x ∷ []) (length xs) ≡ Some x
get_last [] x = refl
get_last (y ∷ xs) x = get_last xs x

pub get_still : {X : Type 0} (xs : List X) (y : X) (k : ℕ) (x : X) → slice_get xs k ≡ Some x → slice_get (xs ++ y ∷ []) k ≡ Some x
get_still [] y k x at = absurd cc
get_still (z ∷ xs) y zero x at = at
get_still (z ∷ xs) y (suc k) x at = get_still xs y k x at

-- what is true of each class of elements is true of all
pub all_by_class : {X : Type 0} (f : X → ℕ) (P : X → Type 0) (xs : List X) → ((x : X) → All P (filter (λ y. f y == f x) xs)) → All P xs
all_by_class f P [] h = All-nil P
all_by_class {X} f P (x ∷ xs) h = All-cons P x xs (All-head P x _ (own (f x == f x) refl)) (all_by_class f P xs (λ y. rest (f x == f y) (filter (λ z. f z == f y) xs) (h y)))
  where
    own : (b : Bool) → (f x == f x) ≡ b → All P (x ∷ filter (λ y. f y == f x) xs)
    own true is = let taken : filter (λ y. f y == f x) (x ∷ xs) ≡ x ∷ filter (λ y. f y == f x) xs = rw is refl in subst (All P) taken (h x)
    own false is = absurd (grind (arith, nat_tests, is))

    rest : (b : Bool) (ys : List X) → All P (cond b (x ∷ ys) ys) → All P ys
    rest true ys all = All-tail P x ys all
    rest false ys all = all

-- of lists in a row, by each list
pub all_flat : {X Y : Type 0} (P : Y → Type 0) (f : X → List Y) (xs : List X) → ((k : ℕ) (x : X) → slice_get xs k ≡ Some x → All P (f x)) → All P (flat_map f xs)
all_flat P f [] h = All-nil P
all_flat P f (x ∷ xs) h = All-append P (f x) (flat_map f xs) (h 0 x refl) (all_flat P f xs (λ k y is. h (suc k) y is))

-- a filter over a list with an element more
one_more : {X : Type 0} (test : X → Bool) (xs : List X) (x : X) (b : Bool) → test x ≡ b → filter test (xs ++ x ∷ []) ≡ filter test xs ++ cond b (x ∷ []) []
one_more test xs x b is = filter-append test xs (x ∷ []) ∙ ap (λ c. filter test xs ++ cond c (x ∷ []) []) is

pub kept_more : {X : Type 0} (test : X → Bool) (xs : List X) (x : X) → test x ≡ true → filter test (xs ++ x ∷ []) ≡ filter test xs ++ x ∷ []
kept_more test xs x is = one_more test xs x true is

pub left_out : {X : Type 0} (test : X → Bool) (xs : List X) (x : X) → test x ≡ false → filter test (xs ++ x ∷ []) ≡ filter test xs
left_out test xs x is = one_more test xs x false is ∙ append-nil (filter test xs)

-- a filter over a filter that lets the same pass
pub twice_kept : {X : Type 0} (test wider : X → Bool) (xs : List X) → ((x : X) → test x ≡ true → wider x ≡ true) → filter test (filter wider xs) ≡ filter test xs
twice_kept test wider [] pass = refl
twice_kept {X} test wider (x ∷ xs) pass = go (wider x) (test x) refl refl (twice_kept test wider xs pass)
  where
    go : (w t : Bool) → wider x ≡ w → test x ≡ t → filter test (filter wider xs) ≡ filter test xs → filter test (cond w (x ∷ filter wider xs) (filter wider xs)) ≡ cond t (x ∷ filter test xs) (filter test xs)
    go true true is is' rest = rw is' (ap (λ ys. x ∷ ys) rest)
    go true false is is' rest = rw is' rest
    go false true is is' rest = let passed : wider x ≡ true = pass x is' in absurd (false≢true (sym is ∙ passed))
    go false false is is' rest = rest

-- what is true of each element at its place is true of one more behind them
pub at_end : {X : Type 0} (P : ℕ → X → Type 0) (xs : List X) (x : X) → ((k : ℕ) (y : X) → slice_get xs k ≡ Some y → P k y) → P (length xs) x → (k : ℕ) (y : X) → slice_get (xs ++ x ∷ []) k ≡ Some y → P k y
at_end P [] x h here zero y is = let same : x ≡ y = cc in subst (P 0) same here
at_end P [] x h here (suc k) y is = absurd cc
at_end P (z ∷ xs) x h here zero y is = h 0 y is
at_end P (z ∷ xs) x h here (suc k) y is = at_end (λ j w. P (suc j) w) xs x (λ j w at. h (suc j) w at) here k y is

-- what was written through a slice of all elements
pub written_back : {X : Type 0} (n : ℕ) (xs ys : List X) → length xs ≡ n → take n (xs ++ ys) ≡ xs
written_back n xs ys counted = subst (λ (m : ℕ). take m (xs ++ ys) ≡ xs) counted (take-append_seam xs ys)

-- a function of the elements, at a place
pub map_at : {X Y : Type 0} (f : X → Y) (xs : List X) (k : ℕ) (x : X) → slice_get xs k ≡ Some x → slice_get (map f xs) k ≡ Some (f x)
map_at f [] k x at = absurd cc
map_at f (y ∷ xs) zero x at = let same : y ≡ x = cc in ap (λ z. Some (f z)) same
map_at f (y ∷ xs) (suc k) x at = map_at f xs k x at

pub map_set_same : {X Y : Type 0} (f : X → Y) (xs : List X) (k : ℕ) (x x' : X) → slice_get xs k ≡ Some x → f x' ≡ f x → map f (slice_set xs k x') ≡ map f xs
map_set_same f [] k x x' at same = absurd cc
map_set_same f (y ∷ xs) zero x x' at same = let here : y ≡ x = cc in ap (λ z. z ∷ map f xs) (same ∙ ap f (sym here))
map_set_same f (y ∷ xs) (suc k) x x' at same = ap (λ zs. f y ∷ zs) (map_set_same f xs k x x' at same)

-- two facts of one result
pub on_ok_both : {T E A B C : Type 0} (r : Result T E) → OnOk r A → OnOk r B → (A → B → C) → OnOk r C
on_ok_both (Ok x) a b f = f a b
on_ok_both (Err e) a b f = tt

-- nothing is left
pub all_taken : {X : Type 0} (xs rest all : List X) → xs ++ rest ≡ all → length rest ≡ 0 → xs ≡ all
all_taken xs [] all is none = sym (append-nil xs) ∙ is
all_taken xs (x ∷ rest) all is none = absurd (omega (arith, none))

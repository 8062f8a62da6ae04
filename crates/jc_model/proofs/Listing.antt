-- What is there, after something is added or taken out.
use Rattle.std.proofs.Common.{◌≡◌, ℕ, zero, suc, ◌+◌, ◌<◌, ◌≤◌, Bool, true, false, if◌then◌else◌, List, [], ◌∷◌, ◌++◌, map, length, get_or, Option, Some, None, refl, sym, ◌∙◌, ap, subst, arith}
use Rattle.std.specs.Prelude.{slice_get, slice_set, sum}
use Rattle.std.specs.List.{remove}
use Rattle.std.specs.Str.{bytes_eq}
use Rattle.std.proofs.lemmas.List.Sums.{sum_by-cons}
use Rattle.std.proofs.lemmas.Slice.Eq.{bytes_eq-Decides}
use Rattle.jc_model.specs.Places.{all_there, LacksName, named_from, HaveNames}
use Rattle.jc_model.specs.Members.{numbers_from}

-- Something more, behind all.

pub there_more : {A : Type 0} (xs : List (Option A)) (x : A) → all_there (xs ++ Some x ∷ []) ≡ all_there xs ++ x ∷ []
there_more [] x = refl
there_more (None ∷ xs) x = there_more xs x
there_more (Some y ∷ xs) x = ap (λ l. y ∷ l) (there_more xs x)

pub numbers_more : {A : Type 0} (i : ℕ) (xs : List (Option A)) (x : A) → numbers_from i (xs ++ Some x ∷ []) ≡ numbers_from i xs ++ (i + length xs) ∷ []
numbers_more i [] x = ap (λ n. n ∷ []) (omega arith)
numbers_more i (None ∷ xs) x =
    let same : (i + 1) + length xs ≡ i + suc (length xs) = omega arith in
    numbers_more (i + 1) xs x ∙ ap (λ n. numbers_from (i + 1) xs ++ n ∷ []) same
numbers_more i (Some y ∷ xs) x =
    let same : (i + 1) + length xs ≡ i + suc (length xs) = omega arith in
    ap (λ l. i ∷ l) (numbers_more (i + 1) xs x ∙ ap (λ n. numbers_from (i + 1) xs ++ n ∷ []) same)

-- Something taken out: where its number stands among the numbers.

pub at_least : {A : Type 0} (i : ℕ) (xs : List (Option A)) (p n : ℕ) → slice_get (numbers_from i xs) p ≡ Some n → i ≤ n
at_least i [] p n at = absurd (cc)
at_least i (None ∷ xs) p n at = let above : i + 1 ≤ n = at_least (i + 1) xs p n at in omega arith
at_least i (Some x ∷ xs) zero n at = let same : i ≡ n = cc in omega arith
at_least i (Some x ∷ xs) (suc p) n at = let above : i + 1 ≤ n = at_least (i + 1) xs p n at in omega arith

pub record TakenAt {A : Type 0} (i : ℕ) (xs : List (Option A)) (id p : ℕ) (x : A) : Type 0 where
  pub numbers : numbers_from i (slice_set xs id None) ≡ remove (numbers_from i xs) p
  pub there : all_there (slice_set xs id None) ≡ remove (all_there xs) p
  pub was : slice_get (all_there xs) p ≡ Some x

pub taken_at : {A : Type 0} (i : ℕ) (xs : List (Option A)) (id p : ℕ) (x : A) → slice_get xs id ≡ Some (Some x) → slice_get (numbers_from i xs) p ≡ Some (i + id) → TakenAt i xs id p x
taken_at i [] id p x at place = absurd (cc)
taken_at i (None ∷ xs) zero p x at place = absurd (cc)
taken_at i (None ∷ xs) (suc id) p x at place =
    let same : i + suc id ≡ (i + 1) + id = omega arith in
    let t = taken_at (i + 1) xs id p x at (place ∙ ap Some same) in
    record { numbers = t.numbers; there = t.there; was = t.was }
taken_at i (Some y ∷ xs) zero zero x at place = record { numbers = refl; there = refl; was = let same : y ≡ x = cc in ap Some same }
taken_at i (Some y ∷ xs) zero (suc p) x at place = let above : i + 1 ≤ i + 0 = at_least (i + 1) xs p (i + 0) place in absurd (omega arith)
taken_at i (Some y ∷ xs) (suc id) zero x at place = let same : i ≡ i + suc id = cc in absurd (omega arith)
taken_at i (Some y ∷ xs) (suc id) (suc p) x at place =
    let same : i + suc id ≡ (i + 1) + id = omega arith in
    let t = taken_at (i + 1) xs id p x at (place ∙ ap Some same) in
    record { numbers = ap (λ l. i ∷ l) t.numbers; there = ap (λ l. y ∷ l) t.there; was = t.was }

-- a sum over what is there
pub sum_less : {A : Type 0} (f : A → ℕ) (xs : List (Option A)) (id : ℕ) (x : A) → slice_get xs id ≡ Some (Some x) → sum (map f (all_there (slice_set xs id None))) + f x ≡ sum (map f (all_there xs))
sum_less f [] id x at = absurd (cc)
sum_less f (None ∷ xs) zero x at = absurd (cc)
sum_less f (None ∷ xs) (suc id) x at = sum_less f xs id x at
sum_less f (Some y ∷ xs) zero x at =
    let same : y ≡ x = cc in
    let other_way : sum (map f (all_there xs)) + f y ≡ f y + sum (map f (all_there xs)) = omega arith in
    ap (λ z. sum (map f (all_there xs)) + f z) (sym same) ∙ other_way ∙ sym (sum_by-cons (λ n. n) (f y) (map f (all_there xs)))
sum_less f (Some y ∷ xs) (suc id) x at =
    let rest : sum (map f (all_there (slice_set xs id None))) + f x ≡ sum (map f (all_there xs)) = sum_less f xs id x at in
    let grouped : (f y + sum (map f (all_there (slice_set xs id None)))) + f x ≡ f y + (sum (map f (all_there (slice_set xs id None))) + f x) = omega arith in
    ap (λ n. n + f x) (sum_by-cons (λ n. n) (f y) (map f (all_there (slice_set xs id None)))) ∙ grouped ∙ ap (λ n. f y + n) rest ∙ sym (sum_by-cons (λ n. n) (f y) (map f (all_there xs)))

-- Names.

none_named : {A : Type 0} (name_of : A → List ℕ) (name : List ℕ) (i : ℕ) (xs : List (Option A)) → LacksName name_of name xs → named_from name_of name i xs ≡ None
none_named name_of name i [] lacks = refl
none_named name_of name i (None ∷ xs) lacks = none_named name_of name (i + 1) xs lacks
none_named name_of name i (Some x ∷ xs) lacks = ap (λ (b : Bool). if b then Some i else named_from name_of name (i + 1) xs) lacks.0 ∙ none_named name_of name (i + 1) xs lacks.1

pub lacks_unnamed : {A : Type 0} (name_of : A → List ℕ) (name : List ℕ) (i : ℕ) (xs : List (Option A)) → named_from name_of name i xs ≡ None → LacksName name_of name xs
lacks_unnamed name_of name i [] none = tt
lacks_unnamed name_of name i (None ∷ xs) none = lacks_unnamed name_of name (i + 1) xs none
lacks_unnamed name_of name i (Some x ∷ xs) none = go (bytes_eq (name_of x) name) refl none (lacks_unnamed name_of name (i + 1) xs)
  where
    go : (b : Bool) → bytes_eq (name_of x) name ≡ b → (if b then Some i else named_from name_of name (i + 1) xs) ≡ None → (named_from name_of name (i + 1) xs ≡ None → LacksName name_of name xs) → (bytes_eq (name_of x) name ≡ false) × LacksName name_of name xs
    go true is none ih = absurd (cc)
    go false is none ih = (is, ih none)

lacks_at : {A : Type 0} (name_of : A → List ℕ) (name : List ℕ) (xs : List (Option A)) (id : ℕ) (x : A) → LacksName name_of name xs → slice_get xs id ≡ Some (Some x) → bytes_eq (name_of x) name ≡ false
lacks_at name_of name [] id x lacks at = absurd (cc)
lacks_at name_of name (None ∷ xs) zero x lacks at = absurd (cc)
lacks_at name_of name (None ∷ xs) (suc id) x lacks at = lacks_at name_of name xs id x lacks at
lacks_at name_of name (Some y ∷ xs) zero x lacks at = let same : y ≡ x = cc in ap (λ z. bytes_eq (name_of z) name) (sym same) ∙ lacks.0
lacks_at name_of name (Some y ∷ xs) (suc id) x lacks at = lacks_at name_of name xs id x lacks.1 at

-- with one more, whose name is new
named_last : {A : Type 0} (name_of : A → List ℕ) (name : List ℕ) (i : ℕ) (xs : List (Option A)) (x : A) → LacksName name_of name xs → named_from name_of name i (xs ++ Some x ∷ []) ≡ (if bytes_eq (name_of x) name then Some (i + length xs) else None)
named_last name_of name i [] x lacks = let same : i ≡ i + 0 = omega arith in ap (λ n. if bytes_eq (name_of x) name then Some n else None) same
named_last name_of name i (None ∷ xs) x lacks =
    let same : (i + 1) + length xs ≡ i + suc (length xs) = omega arith in
    named_last name_of name (i + 1) xs x lacks ∙ ap (λ n. if bytes_eq (name_of x) name then Some n else None) same
named_last name_of name i (Some y ∷ xs) x lacks =
    let same : (i + 1) + length xs ≡ i + suc (length xs) = omega arith in
    ap (λ (b : Bool). if b then Some i else named_from name_of name (i + 1) (xs ++ Some x ∷ [])) lacks.0
    ∙ named_last name_of name (i + 1) xs x lacks.1 ∙ ap (λ n. if bytes_eq (name_of x) name then Some n else None) same

named_before : {A : Type 0} (name_of : A → List ℕ) (name : List ℕ) (i : ℕ) (xs : List (Option A)) (x : A) → bytes_eq (name_of x) name ≡ false → named_from name_of name i (xs ++ Some x ∷ []) ≡ named_from name_of name i xs
named_before name_of name i [] x other = ap (λ (b : Bool). if b then Some i else None) other
named_before name_of name i (None ∷ xs) x other = named_before name_of name (i + 1) xs x other
named_before name_of name i (Some y ∷ xs) x other = ap (λ (o : Option ℕ). if bytes_eq (name_of y) name then Some i else o) (named_before name_of name (i + 1) xs x other)

pub named_more : {A : Type 0} (name_of : A → List ℕ) (name : List ℕ) (i : ℕ) (xs : List (Option A)) (x : A) → named_from name_of (name_of x) i xs ≡ None → named_from name_of name i (xs ++ Some x ∷ []) ≡ (if bytes_eq (name_of x) name then Some (i + length xs) else named_from name_of name i xs)
named_more name_of name i xs x none = go (bytes_eq (name_of x) name) refl
  where
    go : (b : Bool) → bytes_eq (name_of x) name ≡ b → named_from name_of name i (xs ++ Some x ∷ []) ≡ (if b then Some (i + length xs) else named_from name_of name i xs)
    go true is =
        let same : name_of x ≡ name = (bytes_eq-Decides (name_of x) name).0 is in
        let lacks : LacksName name_of name xs = subst (λ (n : List ℕ). LacksName name_of n xs) same (lacks_unnamed name_of (name_of x) i xs none) in
        named_last name_of name i xs x lacks ∙ ap (λ (b : Bool). if b then Some (i + length xs) else None) is
    go false is = named_before name_of name i xs x is

-- with one less
pub named_less : {A : Type 0} (name_of : A → List ℕ) (name : List ℕ) (i : ℕ) (xs : List (Option A)) (id : ℕ) (x : A) → HaveNames name_of xs → slice_get xs id ≡ Some (Some x) → named_from name_of name i (slice_set xs id None) ≡ (if bytes_eq (name_of x) name then None else named_from name_of name i xs)
named_less name_of name i [] id x names at = absurd (cc)
named_less name_of name i (None ∷ xs) zero x names at = absurd (cc)
named_less name_of name i (None ∷ xs) (suc id) x names at = named_less name_of name (i + 1) xs id x names at
named_less name_of name i (Some y ∷ xs) zero x names at =
    let same : y ≡ x = cc in
    subst (λ z. named_from name_of name (i + 1) xs ≡ (if bytes_eq (name_of z) name then None else (if bytes_eq (name_of y) name then Some i else named_from name_of name (i + 1) xs))) same (go (bytes_eq (name_of y) name) refl)
  where
    go : (b : Bool) → bytes_eq (name_of y) name ≡ b → named_from name_of name (i + 1) xs ≡ (if b then None else (if b then Some i else named_from name_of name (i + 1) xs))
    go true is = none_named name_of name (i + 1) xs (subst (λ (n : List ℕ). LacksName name_of n xs) ((bytes_eq-Decides (name_of y) name).0 is) names.0)
    go false is = refl
named_less name_of name i (Some y ∷ xs) (suc id) x names at = go (bytes_eq (name_of y) name) (bytes_eq (name_of x) name) refl refl (named_less name_of name (i + 1) xs id x names.1 at)
  where
    go : (b d : Bool) → bytes_eq (name_of y) name ≡ b → bytes_eq (name_of x) name ≡ d → named_from name_of name (i + 1) (slice_set xs id None) ≡ (if bytes_eq (name_of x) name then None else named_from name_of name (i + 1) xs)
        → (if b then Some i else named_from name_of name (i + 1) (slice_set xs id None)) ≡ (if d then None else (if b then Some i else named_from name_of name (i + 1) xs))
    go true true is is' ih =
        let same : name ≡ name_of y = sym ((bytes_eq-Decides (name_of y) name).0 is) in
        let other : bytes_eq (name_of x) name ≡ false = ap (bytes_eq (name_of x)) same ∙ lacks_at name_of (name_of y) xs id x names.0 at in
        absurd (cc)
    go true false is is' ih = refl
    go false d is is' ih = ih ∙ ap (λ (d : Bool). if d then None else named_from name_of name (i + 1) xs) is'

-- No two have one name, before and after.

false_or_same : (x y : List ℕ) (b : Bool) → bytes_eq x y ≡ b → (x ≡ y → ⊥) → bytes_eq x y ≡ false
false_or_same x y true is differ = absurd (differ ((bytes_eq-Decides x y).0 is))
false_or_same x y false is differ = is

other_way : (x y : List ℕ) → bytes_eq x y ≡ false → bytes_eq y x ≡ false
other_way x y other = false_or_same y x (bytes_eq y x) refl (λ same. let is : bytes_eq x x ≡ false = ap (bytes_eq x) (sym same) ∙ other in let is' : bytes_eq x x ≡ true = (bytes_eq-Decides x x).1 refl in absurd (cc))

lacks_more : {A : Type 0} (name_of : A → List ℕ) (name : List ℕ) (xs : List (Option A)) (x : A) → LacksName name_of name xs → bytes_eq (name_of x) name ≡ false → LacksName name_of name (xs ++ Some x ∷ [])
lacks_more name_of name [] x lacks other = (other, tt)
lacks_more name_of name (None ∷ xs) x lacks other = lacks_more name_of name xs x lacks other
lacks_more name_of name (Some y ∷ xs) x lacks other = (lacks.0, lacks_more name_of name xs x lacks.1 other)

pub names_more : {A : Type 0} (name_of : A → List ℕ) (xs : List (Option A)) (x : A) → HaveNames name_of xs → LacksName name_of (name_of x) xs → HaveNames name_of (xs ++ Some x ∷ [])
names_more name_of [] x names lacks = (tt, tt)
names_more name_of (None ∷ xs) x names lacks = names_more name_of xs x names lacks
names_more name_of (Some y ∷ xs) x names lacks =
    (lacks_more name_of (name_of y) xs x names.0 (other_way (name_of y) (name_of x) lacks.0), names_more name_of xs x names.1 lacks.1)

lacks_less : {A : Type 0} (name_of : A → List ℕ) (name : List ℕ) (xs : List (Option A)) (id : ℕ) → LacksName name_of name xs → LacksName name_of name (slice_set xs id None)
lacks_less name_of name [] id lacks = tt
lacks_less name_of name (None ∷ xs) zero lacks = lacks
lacks_less name_of name (None ∷ xs) (suc id) lacks = lacks_less name_of name xs id lacks
lacks_less name_of name (Some y ∷ xs) zero lacks = lacks.1
lacks_less name_of name (Some y ∷ xs) (suc id) lacks = (lacks.0, lacks_less name_of name xs id lacks.1)

pub names_less : {A : Type 0} (name_of : A → List ℕ) (xs : List (Option A)) (id : ℕ) → HaveNames name_of xs → HaveNames name_of (slice_set xs id None)
names_less name_of [] id names = tt
names_less name_of (None ∷ xs) zero names = names
names_less name_of (None ∷ xs) (suc id) names = names_less name_of xs id names
names_less name_of (Some y ∷ xs) zero names = names.1
names_less name_of (Some y ∷ xs) (suc id) names = (lacks_less name_of (name_of y) xs id names.0, names_less name_of xs id names.1)

-- The numbers rise, and each that is there is found: what a binary search needs (`searched` of std).

numbers_above : {A : Type 0} (i : ℕ) (xs : List (Option A)) (b : ℕ) → b < length (numbers_from i xs) → i ≤ get_or (numbers_from i xs) b 0
numbers_above i [] b below = absurd (omega arith)
numbers_above i (None ∷ xs) b below = let above : i + 1 ≤ get_or (numbers_from (i + 1) xs) b 0 = numbers_above (i + 1) xs b below in omega arith
numbers_above i (Some x ∷ xs) zero below = omega arith
numbers_above i (Some x ∷ xs) (suc b) below =
    let above : i + 1 ≤ get_or (numbers_from (i + 1) xs) b 0 = numbers_above (i + 1) xs b (omega arith) in omega arith

pub numbers_rise : {A : Type 0} (i : ℕ) (xs : List (Option A)) (a b : ℕ) → a ≤ b → b < length (numbers_from i xs) → get_or (numbers_from i xs) a 0 ≤ get_or (numbers_from i xs) b 0
numbers_rise i [] a b order below = absurd (omega arith)
numbers_rise i (None ∷ xs) a b order below = numbers_rise (i + 1) xs a b order below
numbers_rise i (Some x ∷ xs) zero zero order below = omega arith
numbers_rise i (Some x ∷ xs) zero (suc b) order below = let above : i + 1 ≤ get_or (numbers_from (i + 1) xs) b 0 = numbers_above (i + 1) xs b (omega arith) in omega arith
numbers_rise i (Some x ∷ xs) (suc a) zero order below = absurd (omega arith)
numbers_rise i (Some x ∷ xs) (suc a) (suc b) order below = numbers_rise (i + 1) xs a b (omega arith) (omega arith)

pub record NumberThere {A : Type 0} (i : ℕ) (xs : List (Option A)) (id : ℕ) : Type 0 where
  pub place : ℕ
  pub within : place < length (numbers_from i xs)
  pub is : get_or (numbers_from i xs) place 0 ≡ i + id

pub number_there : {A : Type 0} (i : ℕ) (xs : List (Option A)) (id : ℕ) (x : A) → slice_get xs id ≡ Some (Some x) → NumberThere i xs id
number_there i [] id x at = absurd (cc)
number_there i (None ∷ xs) zero x at = absurd (cc)
number_there i (None ∷ xs) (suc id) x at =
    let t = number_there (i + 1) xs id x at in
    let same : (i + 1) + id ≡ i + suc id = omega arith in
    record { place = t.place; within = t.within; is = t.is ∙ same }
number_there i (Some y ∷ xs) zero x at = record { place = 0; within = omega arith; is = omega arith }
number_there i (Some y ∷ xs) (suc id) x at =
    let t = number_there (i + 1) xs id x at in
    let same : (i + 1) + id ≡ i + suc id = omega arith in
    let within : t.place < length (numbers_from (i + 1) xs) = t.within in
    record { place = suc t.place; within = omega arith; is = t.is ∙ same }

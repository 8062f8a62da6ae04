-- The entries of callers: those that are left when the first of one caller is taken.
use Rattle.std.proofs.Common.{◌≡◌, ℕ, ◌+◌, ◌<◌, Bool, true, false, if◌then◌else◌, ◌&&◌, List, [], ◌∷◌, ◌++◌, length, take, drop, get_or, Option, Some, refl, sym, ap, ap₂, ◌∙◌, slice_get}
use Rattle.std.proofs.lemmas.List.{take_more}
use Rattle.std.proofs.lemmas.Bool.{false≢true, eqb-true}
use Rattle.std.specs.List.{find, filter}
use Rattle.std.specs.Prelude.{◌==◌}
use Rattle.jc_model.specs.declared.event.Entry.{Entry}
use Rattle.jc_report.specs.Callers.{caller_eq, entries_in}
use Rattle.jc_report.specs.Lines.{is_by, without_first}

module _ {A : Type 0} (test : A → Bool) where
  first_by : (x : A) (xs : List A) (b : Bool) → slice_get (filter test xs) 0 ≡ find test xs → slice_get (if b then x ∷ filter test xs else filter test xs) 0 ≡ (if b then Some x else find test xs)
  first_by x xs true rest = refl
  first_by x xs false rest = rest

  pub first_kept : (xs : List A) → slice_get (filter test xs) 0 ≡ find test xs
  first_kept [] = refl
  first_kept (x ∷ xs) = first_by x xs (test x) (first_kept xs)

  same_by : (x : A) (xs : List A) (b : Bool) → test x ≡ b → filter test (without_first test xs) ≡ drop 1 (filter test xs) → filter test (if b then xs else x ∷ without_first test xs) ≡ drop 1 (if b then x ∷ filter test xs else filter test xs)
  same_by x xs true is rest = refl
  same_by x xs false is rest = rw is rest

  pub same_left : (xs : List A) → filter test (without_first test xs) ≡ drop 1 (filter test xs)
  same_left [] = refl
  same_left (x ∷ xs) = same_by x xs (test x) refl (same_left xs)

  other_by : (other : A → Bool) (x : A) (xs : List A) (b : Bool) → test x ≡ b → (test x ≡ true → other x ≡ false) → filter other (without_first test xs) ≡ filter other xs → filter other (if b then xs else x ∷ without_first test xs) ≡ filter other (x ∷ xs)
  other_by other x xs true is apart rest = rw (apart is) refl
  other_by other x xs false is apart rest = ap (λ (ys : List A). if other x then x ∷ ys else ys) rest

  -- another test, which nothing passes that passes this one
  pub other_left : (other : A → Bool) (xs : List A) → ((x : A) → test x ≡ true → other x ≡ false) → filter other (without_first test xs) ≡ filter other xs
  other_left other [] apart = refl
  other_left other (x ∷ xs) apart = other_by other x xs (test x) refl (apart x) (other_left other xs apart)

both : (a b : Bool) → (a && b) ≡ true → (a ≡ true) × (b ≡ true)
both true true h = (refl, refl)
both true false h = absurd (false≢true h)
both false b h = absurd (false≢true h)

pub same_caller : (id session i s : ℕ) → caller_eq (id, session) (i, s) ≡ true → (id ≡ i) × (session ≡ s)
same_caller id session i s h = let p = both (id == i) (session == s) h in (eqb-true id i p.0, eqb-true session s p.1)

pub other_caller : (id session i s : ℕ) → caller_eq (id, session) (i, s) ≡ false → (e : Entry) → is_by id session e ≡ true → is_by i s e ≡ false
other_caller id session i s differ e is =
    let p = both (e.id == id) (e.session == session) is in
    ap₂ (λ (m n : ℕ). (m == i) && (n == s)) (eqb-true e.id id p.0) (eqb-true e.session session p.1) ∙ differ

-- what a caller has left, when the first of another or of the same is taken
pub left_to : (id session i s : ℕ) (entries old new : List Entry) (b : Bool) → caller_eq (id, session) (i, s) ≡ b → old ≡ filter (is_by i s) entries → new ≡ (if b then drop 1 old else old) → new ≡ filter (is_by i s) (without_first (is_by id session) entries)
left_to id session i s entries old new true same was is =
    let p = same_caller id session i s same in
    is ∙ ap (drop 1) was ∙ rw (p.0, p.1) (sym (same_left (is_by i s) entries))
left_to id session i s entries old new false differ was is = is ∙ was ∙ sym (other_left (is_by id session) (is_by i s) entries (λ e. other_caller id session i s differ e))

-- a caller's list has changed, and no other
pub changed : (f : List Entry → List Entry) (old new : ℕ × ℕ → Option (List Entry)) (id session : ℕ) (q w : List Entry) → entries_in (old (id, session)) ≡ q → w ≡ f q
    → ((y : ℕ × ℕ) → new y ≡ (if caller_eq (id, session) y then Some w else old y))
    → (i s : ℕ) → entries_in (new (i, s)) ≡ (if caller_eq (id, session) (i, s) then f (entries_in (old (i, s))) else entries_in (old (i, s)))
changed f old new id session q w at is all i s = ap entries_in (all (i, s)) ∙ by (caller_eq (id, session) (i, s)) refl
  where
    by : (b : Bool) → caller_eq (id, session) (i, s) ≡ b → entries_in (if b then Some w else old (i, s)) ≡ (if b then f (entries_in (old (i, s))) else entries_in (old (i, s)))
    by true same =
        let p = same_caller id session i s same in
        is ∙ ap f (sym at ∙ ap₂ (λ (m n : ℕ). entries_in (old (m, n))) p.0 p.1)
    by false differ = refl

-- one entry more

module _ {A : Type 0} (test : A → Bool) (x : A) where
  pushed_by : (y : A) (ys : List A) (b d : Bool) → filter test (ys ++ x ∷ []) ≡ (if d then filter test ys ++ x ∷ [] else filter test ys)
      → (if b then y ∷ filter test (ys ++ x ∷ []) else filter test (ys ++ x ∷ [])) ≡ (if d then (if b then y ∷ filter test ys else filter test ys) ++ x ∷ [] else (if b then y ∷ filter test ys else filter test ys))
  pushed_by y ys true true rest = ap (λ (zs : List A). y ∷ zs) rest
  pushed_by y ys true false rest = ap (λ (zs : List A). y ∷ zs) rest
  pushed_by y ys false true rest = rest
  pushed_by y ys false false rest = rest

  filter_push : (xs : List A) → filter test (xs ++ x ∷ []) ≡ (if test x then filter test xs ++ x ∷ [] else filter test xs)
  filter_push [] = refl
  filter_push (y ∷ ys) = pushed_by y ys (test y) (test x) (filter_push ys)

pub one_more : (entries : List Entry) (n : ℕ) (e : Entry) (old new : ℕ × ℕ → Option (List Entry)) → n < length entries → e ≡ get_or entries n e
    → ((i s : ℕ) → entries_in (old (i, s)) ≡ filter (is_by i s) (take n entries))
    → ((i s : ℕ) → entries_in (new (i, s)) ≡ (if caller_eq (e.id, e.session) (i, s) then entries_in (old (i, s)) ++ e ∷ [] else entries_in (old (i, s))))
    → (i s : ℕ) → entries_in (new (i, s)) ≡ filter (is_by i s) (take (n + 1) entries)
one_more entries n e old new below here so_far added i s =
    let cut : take (n + 1) entries ≡ take n entries ++ e ∷ [] = take_more entries n e below ∙ ap (λ (x : Entry). take n entries ++ x ∷ []) (sym here) in
    added i s ∙ ap (λ (es : List Entry). if caller_eq (e.id, e.session) (i, s) then es ++ e ∷ [] else es) (so_far i s) ∙ sym (filter_push (is_by i s) e (take n entries)) ∙ ap (filter (is_by i s)) (sym cut)
